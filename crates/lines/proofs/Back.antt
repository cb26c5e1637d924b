-- Writing and reading back: a number, and bytes, come back as they were.
use Prim.Native.Nat.{ℕ, zero, suc, ◌+◌, ◌*◌, ◌-◌, ◌/◌, ◌%◌, ◌^◌, ◌≤◌, ◌<◌}
use native.Mathlib.Omega.{arith}
use native.Mathlib.Decide.{dec_lt}
use native.Mathlib.Nat.{pow-succ'}
use mathlib.Core.Path.{◌≡◌, refl, sym, ◌∙◌}
use mathlib.Core.Bool.{Bool, true}
use mathlib.Core.List.{List, [], ◌∷◌, ◌++◌}
use lib.Dec.{ltb}
use lib.ListN.{length, length-append}
use lib.Seq.{sets}
use borrow.Author.Tests.{le-leb, lt-leb, lt-ltb, ltb-true}
use Rattle.lines.specs.Every.{every}
use Rattle.lines.specs.Decimal.{is_digit, value_from, value_of, decimal_of, digit_of, digits, decimal_text}
use Rattle.std.specs.Prelude.{Ok}
use Rattle.lines.specs.Hex.{nibble, is_nibble, is_hex, bytes_of, hex_into, glyph, hex_digits, hex_text}
use Rattle.lines.proofs.Testing.{both_left, both_right, every_append}
use Rattle.lines.proofs.Spelling.{one_digit, more_digits}
use Rattle.lines.proofs.Pairing.{digit_09, digit_af, glyph_09, glyph_af, digits_many, pairs_of_even}

-- ---- a number

value_append : (a : List ℕ) (n : ℕ) (b : List ℕ) → value_from n (a ++ b) ≡ value_from (value_from n a) b
value_append [] n b = refl
value_append (x ∷ a) n b = value_append a (10 * n + (x - 48)) b

a_digit : (x : ℕ) → is_digit (digit_of x) ≡ true
a_digit x = rw (le-leb 48 (digit_of x) (omega arith), le-leb (digit_of x) 57 (omega arith))

record Spelt (x : ℕ) (w : List ℕ) : Type 0 where
  some : 1 ≤ length w
  all : every is_digit w ≡ true
  value : value_of w ≡ x

spelt_one : (n x : ℕ) → x < 10 → Spelt x (digits (suc n) x)
spelt_one n x h = rw (one_digit n x h) (record { some = omega arith; all = rw (a_digit x); value = omega arith })

spelt : (n x : ℕ) → x < 10 ^ suc n → Spelt x (digits (suc n) x)
spelt zero x h = spelt_one zero x h
spelt (suc n) x h = elim (dec_lt x 10) [
  | yes l ↦ spelt_one (suc n) x l
  | no g ↦ more (spelt n (x / 10) (omega (arith, pow-succ' 10 (suc n)))) (omega arith)
]
  where
    more : Spelt (x / 10) (digits (suc n) (x / 10)) → 10 ≤ x → Spelt x (digits (suc (suc n)) x)
    more s g = let w : List ℕ = digits (suc n) (x / 10) in
        rw (more_digits (suc n) x g) (record {
          some = omega (arith, length-append w (digit_of x ∷ []));
          all = every_append is_digit w (digit_of x ∷ []) s.all (rw (a_digit x));
          value = value_append w 0 (digit_of x ∷ []) ∙ omega (arith, s.value);
        })

pub number_back : (x : ℕ) → x ≤ 65535 → decimal_of (decimal_text x) ≡ Ok x
unfolding decimal_of decimal_text
number_back x h =
    let s = spelt 19 x (omega arith) in
    rw (lt-leb (length (digits 20 x)) 0 s.some, s.all, s.value, le-leb x 65535 h)

-- ---- bytes

nibble_glyph : (d : ℕ) → d < 16 → nibble (glyph d) ≡ d
nibble_glyph d h = elim (dec_lt d 10) [
  | yes l ↦ rw (← glyph_09 d l) (sym (digit_09 (48 + d) (omega arith) (omega arith)) ∙ omega arith)
  | no g ↦ rw (← glyph_af d (omega arith)) (sym (digit_af (87 + d) (omega arith) (omega arith)) ∙ omega arith)
]

record Digited (bs w : List ℕ) : Type 0 where
  all : every is_nibble w ≡ true
  bytes : bytes_of w ≡ bs

abbrev pub is_byte : ℕ → Bool
is_byte b = ltb b 256

digited : (bs : List ℕ) → every is_byte bs ≡ true → Digited bs (hex_digits bs)
digited [] e = record { all = refl; bytes = refl }
digited (b ∷ bs) e =
    let small : b < 256 = ltb-true b 256 (both_left (ltb b 256) (every is_byte bs) e) in
    let high = nibble_glyph (b / 16) (omega arith) in
    let low = nibble_glyph (b % 16) (omega arith) in
    let rest = digited bs (both_right (ltb b 256) (every is_byte bs) e) in
    let sum : 16 * (b / 16) + b % 16 ≡ b = omega arith in
    record {
      all = rw (high, low, lt-ltb (b / 16) 16 (omega arith), lt-ltb (b % 16) 16 (omega arith)) rest.all;
      bytes = rw (high, low, sum, rest.bytes);
    }

reads : (w bs room : List ℕ) → is_hex w ≡ true → bytes_of w ≡ bs → length bs ≤ length room → hex_into w room ≡ (Ok (length bs), sets room 0 bs)
unfolding hex_into
reads w bs room e f h = rw (hex_into, e, f, le-leb (length bs) (length room) h)

pub bytes_back : (bs room : List ℕ) → every is_byte bs ≡ true → length bs ≤ length room → hex_into (hex_text bs) room ≡ (Ok (length bs), sets room 0 bs)
unfolding hex_text is_hex
bytes_back [] room e h = reads (hex_text []) [] room refl refl h
bytes_back (b ∷ bs) room e h =
    let w : List ℕ = hex_digits (b ∷ bs) in
    let d = digited (b ∷ bs) e in
    reads w (b ∷ bs) room (pairs_of_even w (λ z. omega arith) (omega (arith, digits_many (b ∷ bs))) ∙ d.all) d.bytes h
