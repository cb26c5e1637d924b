-- Laws of reading a decimal number: a value that is cut off at 65,536 stays cut off, and which case of the answer holds.
use Prim.Native.Nat.{ℕ, suc, ◌+◌, ◌*◌, ◌-◌, ◌≤◌, ◌<◌, min}
use native.Mathlib.Omega.{arith}
use native.Mathlib.Decide.{dec_lt}
use native.Mathlib.Numerals.{add-one}
use mathlib.Core.Path.{◌≡◌, refl, sym, ap, ◌∙◌}
use mathlib.Core.Bool.{Bool, true, false, not}
use mathlib.Core.List.{List, [], ◌∷◌}
use lib.Dec.{leb}
use lib.ListN.{length, get_or, drop, drop_of_length-le}
use lib.Seq.{drop-cons}
use borrow.Author.Tests.{le-leb, lt-leb, not-true, not-false}
use Rattle.lines.specs.Every.{every}
use Rattle.lines.specs.Decimal.{is_digit, value_from, value_of, decimal_of}
use Rattle.std.specs.Prelude.{Ok, Err}
use Rattle.lines.specs.declared.decimal.DecimalFault.TheVariants.{NotDecimal, TooLarge}

-- ---- the value, cut off

grows : (bs : List ℕ) (n : ℕ) → n ≤ value_from n bs
grows [] n = omega arith
grows (b ∷ bs) n = omega (arith, grows bs (10 * n + (b - 48)))

cut_off : (bs : List ℕ) (n : ℕ) → min (value_from (min n 65536) bs) 65536 ≡ min (value_from n bs) 65536
cut_off bs n = elim (dec_lt n 65536) [
  | yes h ↦ let e : min n 65536 ≡ n = omega arith in rw e refl
  | no h ↦ let e : min n 65536 ≡ 65536 = omega arith in rw e (omega (arith, grows bs 65536, grows bs n))
]

pub record Valuing (w : List ℕ) (n i : ℕ) : Type 0 where
  pub within : i ≤ length w
  pub small : n ≤ 65536
  pub rest : min (value_from n (drop i w)) 65536 ≡ min (value_of w) 65536

module _ (w : List ℕ) where
  pub valuing_starts : Valuing w 0 0
  valuing_starts = record { within = omega arith; small = omega arith; rest = refl }

  module _ (n i : ℕ) (s : Valuing w n i) where
    pub valuing_goes : i < length w → (m : ℕ) → m ≡ min (10 * n + (get_or w i 0 - 48)) 65536 → Valuing w m (i + 1)
    valuing_goes h m e = record {
      within = omega arith;
      small = omega arith;
      rest = rw (e, add-one i) (cut_off (drop (suc i) w) (10 * n + (get_or w i 0 - 48)) ∙ ap (λ (l : List ℕ). min (value_from n l) 65536) (sym (drop-cons w i 0 h)) ∙ s.rest);
    }

    pub valued : length w ≤ i → n ≡ min (value_of w) 65536
    valued h = let e = ap (λ (l : List ℕ). min (value_from n l) 65536) (drop_of_length-le w h) in omega (arith, sym e ∙ s.rest, s.small)

pub ruleset values = (valuing_starts, valuing_goes, valued)

-- ---- what a word says

module _ (w : List ℕ) where
  pub says_nothing : length w ≡ 0 → Err NotDecimal ≡ decimal_of w
  unfolding decimal_of
  says_nothing h = simp (decimal_of, le-leb (length w) 0 (omega arith))

  module _ (some : length w ≡ 0 → ⊥) (t : Bool) (e : t ≡ every is_digit w) where
    nonempty : leb (length w) 0 ≡ false
    nonempty = lt-leb (length w) 0 (omega arith)

    pub says_other : not t ≡ true → Err NotDecimal ≡ decimal_of w
    unfolding decimal_of
    says_other n = rw (decimal_of, nonempty, sym e ∙ not-true t n)

    module _ (d : not t ≡ false) (n : ℕ) (v : n ≡ min (value_of w) 65536) where
      pub says_value : n ≤ 65535 → Ok n ≡ decimal_of w
      unfolding decimal_of
      says_value h = let k : n ≡ value_of w = omega arith in rw (decimal_of, nonempty, sym e ∙ not-false t d, le-leb (value_of w) 65535 (omega arith), k) refl

      pub says_large : 65535 < n → Err TooLarge ≡ decimal_of w
      unfolding decimal_of
      says_large h = rw (decimal_of, nonempty, sym e ∙ not-false t d, lt-leb (value_of w) 65535 (omega arith)) refl

pub ruleset sayings = (says_nothing, says_other, says_value, says_large)
