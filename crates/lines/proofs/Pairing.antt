-- Laws of hex: digits and what they count, which words are hex, and bytes read and written two digits at a time.
use Prim.Native.Nat.{ℕ, suc, ◌+◌, ◌*◌, ◌-◌, ◌/◌, ◌%◌, ◌≤◌, ◌<◌}
use native.Mathlib.Omega.{arith}
use native.Mathlib.Numerals.{add-one, unary_clauses}
use mathlib.Core.Path.{◌≡◌, refl, sym, ap, ◌∙◌}
use mathlib.Core.Bool.{Bool, true, false, ◌&&◌, not}
use mathlib.Core.List.{List, [], ◌∷◌}
use lib.Dec.{eqb}
use lib.ListN.{length, get_or, set, drop, length-set, length-drop, drop_of_length-le}
use lib.Seq.{sets, drop-cons}
use borrow.Author.Tests.{lt-ltb, le-ltb, ltb-true, le-leb, lt-leb, eq-eqb, ne_eqb, not-true, not-false}
use Rattle.numbers.specs.Writing.{written_at}
use Rattle.numbers.proofs.Writing.{fit, too_many}
use Rattle.lines.specs.Every.{every}
use Rattle.lines.specs.Hex.{nibble, is_nibble, is_dash, is_pairs, is_hex, bytes_of, hex_into, glyph, hex_digits, hex_text}
use Rattle.std.specs.Prelude.{Ok, Err}
use Rattle.lines.specs.declared.hex.HexFault.TheVariants.{NotHex, TooMany}
use Rattle.lines.proofs.Testing.{each}

-- ---- a digit

module _ (b : ℕ) where
  pub below_0 : b < 48 → 16 ≡ nibble b
  unfolding nibble
  below_0 h = simp (nibble, lt-ltb)

  pub digit_09 : 48 ≤ b → b ≤ 57 → b - 48 ≡ nibble b
  unfolding nibble
  digit_09 a h = simp (nibble, le-ltb, le-leb)

  pub below_A : 57 < b → b < 65 → 16 ≡ nibble b
  unfolding nibble
  below_A a h = let c : 48 ≤ b = omega arith in simp (nibble, le-ltb, lt-ltb, lt-leb)

  pub digit_AF : 65 ≤ b → b ≤ 70 → b - 65 + 10 ≡ nibble b
  unfolding nibble
  digit_AF a h =
      let c : 48 ≤ b = omega arith in
      let d : 57 < b = omega arith in
      simp (nibble, le-ltb, lt-leb, le-leb) (omega arith)

  pub below_a : 70 < b → b < 97 → 16 ≡ nibble b
  unfolding nibble
  below_a a h =
      let c : 48 ≤ b = omega arith in
      let d : 57 < b = omega arith in
      let e : 65 ≤ b = omega arith in
      simp (nibble, le-ltb, lt-ltb, lt-leb)

  pub digit_af : 97 ≤ b → b ≤ 102 → b - 97 + 10 ≡ nibble b
  unfolding nibble
  digit_af a h =
      let c : 48 ≤ b = omega arith in
      let d : 57 < b = omega arith in
      let e : 65 ≤ b = omega arith in
      let f : 70 < b = omega arith in
      simp (nibble, le-ltb, lt-leb, le-leb) (omega arith)

  pub above_f : 102 < b → 16 ≡ nibble b
  unfolding nibble
  above_f h =
      let c : 48 ≤ b = omega arith in
      let d : 57 < b = omega arith in
      let e : 65 ≤ b = omega arith in
      let f : 70 < b = omega arith in
      let g : 97 ≤ b = omega arith in
      simp (nibble, le-ltb, lt-leb)

pub ruleset nibbles = (below_0, digit_09, below_A, digit_AF, below_a, digit_af, above_f)

module _ (d : ℕ) where
  pub glyph_09 : d < 10 → 48 + d ≡ glyph d
  unfolding glyph
  glyph_09 h = simp (glyph, lt-ltb)

  pub glyph_af : 10 ≤ d → 87 + d ≡ glyph d
  unfolding glyph
  glyph_af h = simp (glyph, le-ltb)

pub ruleset glyphs = (glyph_09, glyph_af)

-- ---- which words are hex

pairs_of_none : (w : List ℕ) → length w ≡ 0 → is_pairs w ≡ false
pairs_of_none [] h = refl
pairs_of_none (b ∷ w) h = absurd (omega arith)

pairs_of_odd : (w : List ℕ) → (length w % 2 ≡ 0 → ⊥) → is_pairs w ≡ false
pairs_of_odd [] h = refl
pairs_of_odd (b ∷ w) h = rw (ne_eqb (length (b ∷ w) % 2) 0 h)

pub pairs_of_even : (w : List ℕ) → (length w ≡ 0 → ⊥) → length w % 2 ≡ 0 → is_pairs w ≡ every is_nibble w
pairs_of_even [] n h = absurd (n refl)
pairs_of_even (b ∷ w) n h = rw (eq-eqb (length (b ∷ w) % 2) 0 h)

module _ (w : List ℕ) (t : Bool) (d : t ≡ is_dash w) where
  pub hex_dash : t ≡ true → true ≡ is_hex w
  unfolding is_hex
  hex_dash e = rw (is_hex, ← d, e)

  module _ (e : t ≡ false) where
    hex_pairs : is_hex w ≡ is_pairs w
    unfolding is_hex
    hex_pairs = rw (is_hex, ← d, e)

    pub hex_none : length w ≡ 0 → false ≡ is_hex w
    hex_none h = sym (hex_pairs ∙ pairs_of_none w h)

    pub hex_odd : (length w % 2 ≡ 0 → ⊥) → false ≡ is_hex w
    hex_odd h = sym (hex_pairs ∙ pairs_of_odd w h)

    pub hex_even : (length w ≡ 0 → ⊥) → length w % 2 ≡ 0 → (u : Bool) → u ≡ every is_nibble w → u ≡ is_hex w
    hex_even n h u f = f ∙ sym (hex_pairs ∙ pairs_of_even w n h)

pub ruleset hexes = (hex_dash, hex_none, hex_odd, hex_even)

-- ---- bytes are read

bytes_many : (w : List ℕ) → length (bytes_of w) ≡ length w / 2
bytes_many [] = refl
bytes_many (a ∷ []) = refl
bytes_many (a ∷ b ∷ w) = let ih = bytes_many w in omega arith

bytes_of_few : (w : List ℕ) → length w ≤ 1 → bytes_of w ≡ []
bytes_of_few [] h = refl
bytes_of_few (a ∷ []) h = refl
bytes_of_few (a ∷ b ∷ w) h = absurd (omega arith)

-- a word of two bytes or more that is hex has digits alone
digit_at : (w : List ℕ) → is_hex w ≡ true → 1 < length w → (i : ℕ) → i < length w → nibble (get_or w i 0) < 16
unfolding is_hex
digit_at [] e h i k = absurd (omega arith)
digit_at (a ∷ []) e h i k = absurd (omega arith)
digit_at (a ∷ b ∷ w) e h i k =
    ltb-true (nibble (get_or (a ∷ b ∷ w) i 0)) 16 (each is_nibble (a ∷ b ∷ w) (right (eqb (length (a ∷ b ∷ w) % 2) 0) (every is_nibble (a ∷ b ∷ w)) e) i k)
  where
    right : (s t : Bool) → s && t ≡ true → t ≡ true
    right true t q = q
    right false true q = refl
    right false false q = q

module _ (w : List ℕ) (k n : ℕ) (e : is_hex w ≡ true) (h : k < length w / 2) where
  pub high_small : n ≡ nibble (get_or w (2 * k) 0) → n < 16
  high_small f = rw f (digit_at w e (omega arith) (2 * k) (omega arith))

  pub low_small : n ≡ nibble (get_or w (2 * k + 1) 0) → n < 16
  low_small f = rw f (digit_at w e (omega arith) (2 * k + 1) (omega arith))

pub ruleset smalls = (high_small, low_small)

pub record Decoding (w room₀ room : List ℕ) (k : ℕ) : Type 0 where
  pub within : k ≤ length w / 2
  pub size : length room ≡ length room₀
  pub left : sets room₀ 0 (bytes_of w) ≡ sets room k (bytes_of (drop (2 * k) w))

module _ (w room₀ : List ℕ) where
  pub decoding_starts : Decoding w room₀ room₀ 0
  decoding_starts = record { within = omega arith; size = refl; left = refl }

  module _ (room : List ℕ) (k : ℕ) (i : Decoding w room₀ room k) where
    pub decoding_goes : k < length w / 2 → (a b n : ℕ) → a ≡ nibble (get_or w (2 * k) 0) → b ≡ nibble (get_or w (2 * k + 1) 0) → n ≡ 16 * a + b → Decoding w room₀ (set room k n) (k + 1)
    decoding_goes h a b n ea eb en = record { within = omega arith; size = length-set room k n ∙ i.size; left = i.left ∙ next }
      where
        two : bytes_of (drop (2 * k) w) ≡ n ∷ bytes_of (drop (suc (suc (2 * k))) w)
        two = let s : suc (2 * k) ≡ 2 * k + 1 = omega arith in
            ap bytes_of (drop-cons w (2 * k) 0 (omega arith) ∙ ap (λ (l : List ℕ). get_or w (2 * k) 0 ∷ l) (drop-cons w (suc (2 * k)) 0 (omega arith))) ∙ rw (en, ea, eb, s)

        next : sets room k (bytes_of (drop (2 * k) w)) ≡ sets (set room k n) (k + 1) (bytes_of (drop (2 * (k + 1)) w))
        next = let p : 2 * (k + 1) ≡ suc (suc (2 * k)) = omega arith in rw (p, add-one k, two)

    pub decoded : length w / 2 ≤ k → room ≡ sets room₀ 0 (bytes_of w)
    decoded h = sym (i.left ∙ ap (λ (l : List ℕ). sets room k l) (bytes_of_few (drop (2 * k) w) (omega (arith, length-drop (2 * k) w))))

pub ruleset decodings = (decoding_starts, decoding_goes, decoded)

module _ (w room : List ℕ) (t : Bool) (e : t ≡ is_hex w) where
  pub not_hex : not t ≡ true → (Err NotHex, room) ≡ hex_into w room
  unfolding hex_into
  not_hex n = rw (hex_into, ← e, not-true t n)

  module _ (n : not t ≡ false) where
    pub is_hex_lem : is_hex w ≡ true
    is_hex_lem = sym e ∙ not-false t n

    pub too_many_bytes : length room < length w / 2 → (Err TooMany, room) ≡ hex_into w room
    unfolding hex_into
    too_many_bytes h = rw (hex_into, ← e, not-false t n, bytes_many w, lt-leb (length w / 2) (length room) h)

    pub took : (after : List ℕ) → length w / 2 ≤ length room → after ≡ sets room 0 (bytes_of w) → (Ok (length w / 2), after) ≡ hex_into w room
    unfolding hex_into
    took after h f = rw (hex_into, ← e, not-false t n, bytes_many w, le-leb (length w / 2) (length room) h, f)

pub ruleset readings = (not_hex, is_hex_lem, too_many_bytes, took)

-- ---- bytes are written

pub digits_many : (bs : List ℕ) → length (hex_digits bs) ≡ 2 * length bs
digits_many [] = refl
digits_many (b ∷ bs) = let ih = digits_many bs in omega arith

pub record Encoding (bytes room₀ : List ℕ) (at : ℕ) (room : List ℕ) (k : ℕ) : Type 0 where
  pub within : k ≤ length bytes
  pub size : length room ≡ length room₀
  pub left : sets room₀ at (hex_digits bytes) ≡ sets room (at + 2 * k) (hex_digits (drop k bytes))

module _ (bytes room₀ : List ℕ) (at : ℕ) where
  pub encoding_starts : Encoding bytes room₀ at room₀ 0
  encoding_starts = record { within = omega arith; size = refl; left = simp unary_clauses }

  module _ (room : List ℕ) (k : ℕ) (i : Encoding bytes room₀ at room k) where
    pub encoding_goes : k < length bytes → (a b : ℕ) → a ≡ glyph (get_or bytes k 0 / 16) → b ≡ glyph (get_or bytes k 0 % 16) → Encoding bytes room₀ at (set (set room (at + 2 * k) a) (at + 2 * k + 1) b) (k + 1)
    encoding_goes h a b ea eb = record { within = omega arith; size = length-set (set room (at + 2 * k) a) (at + 2 * k + 1) b ∙ length-set room (at + 2 * k) a ∙ i.size; left = i.left ∙ next }
      where
        next : sets room (at + 2 * k) (hex_digits (drop k bytes)) ≡ sets (set (set room (at + 2 * k) a) (at + 2 * k + 1) b) (at + 2 * (k + 1)) (hex_digits (drop (k + 1) bytes))
        next = let p : at + 2 * (k + 1) ≡ suc (suc (at + 2 * k)) = omega arith in
            let q : at + 2 * k + 1 ≡ suc (at + 2 * k) = omega arith in
            rw (p, q, add-one k, drop-cons bytes k 0 h, ea, eb)

    pub encoded : length bytes ≤ k → room ≡ sets room₀ at (hex_digits bytes)
    encoded h = sym (i.left ∙ ap (λ (l : List ℕ). sets room (at + 2 * k) (hex_digits l)) (drop_of_length-le bytes h))

pub ruleset encodings = (encoding_starts, encoding_goes, encoded)

text_of_none : (bs : List ℕ) → length bs ≡ 0 → hex_text bs ≡ 45 ∷ []
unfolding hex_text
text_of_none [] h = refl
text_of_none (b ∷ bs) h = absurd (omega arith)

text_of_some : (bs : List ℕ) → (length bs ≡ 0 → ⊥) → hex_text bs ≡ hex_digits bs
unfolding hex_text
text_of_some [] n = absurd (n refl)
text_of_some (b ∷ bs) n = refl

module _ (bs room : List ℕ) (at : ℕ) where
  pub dash_put : (p : ℕ × List ℕ) → length bs ≡ 0 → p ≡ written_at (45 ∷ []) at room → p ≡ written_at (hex_text bs) at room
  dash_put p h e = rw (text_of_none bs h) e

  module _ (n : 0 < length bs) where
    pub no_room_for_hex : (length room - at) / 2 < length bs → (at, room) ≡ written_at (hex_text bs) at room
    no_room_for_hex h = rw (text_of_some bs (λ e. omega arith)) (too_many (hex_digits bs) at room (omega (arith, digits_many bs)))

    pub hex_put : (after : List ℕ) → at ≤ length room → length bs ≤ (length room - at) / 2 → after ≡ sets room at (hex_digits bs) → (at + 2 * length bs, after) ≡ written_at (hex_text bs) at room
    hex_put after h k e = rw (text_of_some bs (λ e. omega arith), e, ← digits_many bs) (fit (hex_digits bs) at room (omega (arith, digits_many bs)))

pub ruleset hex_puts = (dash_put, no_room_for_hex, hex_put)
