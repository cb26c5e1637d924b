-- The bytes of a number, and bytes written into lent room.
use Rattle.std.specs.Prelude.{ℕ, ◌+◌, ◌/◌, List, [], ◌∷◌, ◌++◌, length, ltb, leb, if◌then◌else◌}
use Rattle.std.proofs.lemmas.List.Edits.{sets}
use Rattle.numbers.specs.Number.{bits}

-- "seven bits each, lowest group first. The top bit is set on every byte but the last. .. Only the shortest form is allowed"
unfoldable pub number_bytes : ℕ → List ℕ
number_bytes n =
    if ltb n 128 then bits n ∷ [] else
    if ltb n 16384 then (128 + bits n) ∷ bits (n / 128) ∷ [] else
    (128 + bits n) ∷ (128 + bits (n / 128)) ∷ bits (n / 16384) ∷ []

-- the place after the bytes, and the room with the bytes at their place; a room that is too short stays as it was, and so does the place
unfoldable pub written_at : List ℕ → ℕ → List ℕ → ℕ × List ℕ
written_at bs at room = if leb (at + length bs) (length room) then (at + length bs, sets room at bs) else (at, room)

-- numbers one after another: "in house numbers"
abbrev pub bytes_of : List ℕ → List ℕ
bytes_of [] = []
bytes_of (n ∷ ns) = number_bytes n ++ bytes_of ns

-- the place and the room after numbers are written one after another, each where the one before ended
abbrev pub written : List ℕ → ℕ × List ℕ → ℕ × List ℕ
written [] p = p
written (n ∷ ns) p = written ns (written_at (number_bytes n) p.0 p.1)
