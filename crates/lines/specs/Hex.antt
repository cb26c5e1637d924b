-- Bytes in hex: "bytes are hex (`-` for none)".
use Rattle.std.specs.Prelude.{ℕ, ◌+◌, ◌*◌, ◌-◌, ◌/◌, ◌%◌, Bool, false, ◌&&◌, ◌||◌, List, [], ◌∷◌, leb, ltb, eqb, length, if◌then◌else◌, Result, Ok, Err}
use Rattle.std.proofs.lemmas.List.Edits.{sets}
use Rattle.lines.specs.Every.{every}
use Rattle.lines.specs.declared.hex.HexFault.{HexFault}
use Rattle.lines.specs.declared.hex.HexFault.TheVariants.{NotHex, TooMany}

-- what a digit counts, of either case; 16 for a byte that is no digit
unfoldable pub nibble : ℕ → ℕ
nibble b =
    if ltb b 48 then 16 else
    if leb b 57 then b - 48 else
    if ltb b 65 then 16 else
    if leb b 70 then b - 55 else
    if ltb b 97 then 16 else
    if leb b 102 then b - 87 else 16

abbrev pub is_nibble : ℕ → Bool
is_nibble b = ltb (nibble b) 16

-- `-` alone
abbrev pub is_dash : List ℕ → Bool
is_dash [] = false
is_dash (b ∷ []) = eqb b 45
is_dash (b ∷ c ∷ w) = false

abbrev pub is_pairs : List ℕ → Bool
is_pairs [] = false
is_pairs (b ∷ w) = eqb (length (b ∷ w) % 2) 0 && every is_nibble (b ∷ w)

unfoldable pub is_hex : List ℕ → Bool
is_hex w = is_dash w || is_pairs w

-- the bytes of a word that is hex: two digits each, the higher first
abbrev pub bytes_of : List ℕ → List ℕ
bytes_of [] = []
bytes_of (a ∷ []) = []
bytes_of (a ∷ b ∷ w) = (16 * nibble a + nibble b) ∷ bytes_of w

-- how many bytes a word says, and the room with the bytes at its front; where there are none or too many the room stays as it was
unfoldable pub hex_into : List ℕ → List ℕ → Result ℕ HexFault × List ℕ
hex_into w room =
    let many : ℕ = length (bytes_of w) in
    if is_hex w then (if leb many (length room) then (Ok many, sets room 0 (bytes_of w)) else (Err TooMany, room)) else (Err NotHex, room)

-- the byte of a digit below 16, in lower case
unfoldable pub glyph : ℕ → ℕ
glyph d = if ltb d 10 then 48 + d else 87 + d

abbrev pub hex_digits : List ℕ → List ℕ
hex_digits [] = []
hex_digits (b ∷ bs) = glyph (b / 16) ∷ glyph (b % 16) ∷ hex_digits bs

unfoldable pub hex_text : List ℕ → List ℕ
hex_text [] = 45 ∷ []
hex_text (b ∷ bs) = hex_digits (b ∷ bs)
