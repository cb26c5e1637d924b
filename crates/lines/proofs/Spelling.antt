-- Laws of writing a decimal number: its digits from the last on, and the number that they make.
use Prim.Native.Nat.{ℕ, zero, suc, ◌-◌, ◌/◌, ◌^◌, ◌≤◌, ◌<◌}
use native.Mathlib.Omega.{arith}
use native.Mathlib.Nat.{pow-succ'}
use mathlib.Core.Path.{◌≡◌, refl, sym, ap, ◌∙◌, subst⁻¹}
use mathlib.Core.List.{List, [], ◌∷◌, ◌++◌, append_assoc, append-nil}
use lib.ListN.{length, set, take, drop, length-set, length-drop, drop_of_length-le}
use lib.Seq.{take_all, drop-cons, drop-set-lt, get_or-set_same}
use borrow.Author.Tests.{lt-ltb, le-ltb}
use Rattle.lines.specs.Decimal.{digit_of, digits, decimal_text, Digits}
use Rattle.numbers.specs.Writing.{written_at}

pub one_digit : (n x : ℕ) → x < 10 → digits (suc n) x ≡ digit_of x ∷ []
one_digit n x h = rw (lt-ltb x 10 h)

pub more_digits : (n x : ℕ) → 10 ≤ x → digits (suc n) x ≡ digits n (x / 10) ++ (digit_of x ∷ [])
more_digits n x h = rw (le-ltb x 10 h)

-- what is left of the number stands before the digits that the room has
pub record Spelling (x : ℕ) (room : List ℕ) (at rest : ℕ) : Type 0 where
  pub within : at < 20
  pub size : length room ≡ 20
  pub few : rest < 10 ^ suc at
  pub whole : digits (suc at) rest ++ drop (suc at) room ≡ decimal_text x

-- the room after a digit is stored
stored : (room : List ℕ) (at d : ℕ) → at < length room → drop at (set room at d) ≡ d ∷ drop (suc at) room
stored room at d h =
    let k : at < length (set room at d) = rw (length-set room at d) h in
    rw (drop-cons (set room at d) at 0 k, get_or-set_same room at d 0 h, drop-set-lt (suc at) room at d (omega arith))

module _ (x : ℕ) (room : List ℕ) where
  pub spelling_starts : x < 18446744073709551616 → length room ≡ 20 → Spelling x room 19 x
  unfolding decimal_text
  spelling_starts h k = record {
    within = omega arith;
    size = k;
    few = omega arith;
    whole = rw (drop_of_length-le room {i = 20} (omega arith)) (append-nil (digits 20 x));
  }

  module _ (at rest : ℕ) (s : Spelling x room at rest) where
    pub not_first : 10 ≤ rest → 1 ≤ at
    not_first h = go at s.few
      where
        go : (n : ℕ) → rest < 10 ^ suc n → 1 ≤ n
        go zero f = absurd (omega arith)
        go (suc n) f = omega arith

    module _ (d : ℕ) (e : d ≡ digit_of rest) where
      pub spelling_goes : 10 ≤ rest → Spelling x (set room at d) (at - 1) (rest / 10)
      spelling_goes h =
          let n : suc (at - 1) ≡ at = omega (arith, not_first h) in
          record {
            within = omega (arith, s.within);
            size = length-set room at d ∙ s.size;
            few = rw n (omega (arith, pow-succ' 10 at, s.few));
            whole = subst⁻¹ (λ (m : ℕ). digits m (rest / 10) ++ drop m (set room at d) ≡ decimal_text x) n (ap (λ (l : List ℕ). digits at (rest / 10) ++ l) (stored room at d (omega (arith, s.within, s.size)) ∙ rw e refl) ∙
                sym (append_assoc (digits at (rest / 10)) (digit_of rest ∷ []) (drop (suc at) room)) ∙
                ap (λ (l : List ℕ). l ++ drop (suc at) room) (sym (more_digits at rest h)) ∙ s.whole);
          }

      pub spelled : rest < 10 → Digits x at (set room at d)
      spelled h = record {
        within = s.within;
        size = length-set room at d ∙ s.size;
        text = stored room at d (omega (arith, s.within, s.size)) ∙ rw e (ap (λ (l : List ℕ). l ++ drop (suc at) room) (sym (one_digit at rest h))) ∙ s.whole;
      }

pub ruleset spellings = (spelling_starts, spelling_goes, spelled)

-- the digits are put where the number is to stand
pub put_digits : (x at : ℕ) (all : List ℕ) (start : ℕ) (p : ℕ × List ℕ) (room : List ℕ) → Digits x start all → p ≡ written_at (take (20 - start) (drop start all)) at room → p ≡ written_at (decimal_text x) at room
put_digits x at all start p room d e = e ∙ ap (λ (l : List ℕ). written_at l at room) (take_all (20 - start) (drop start all) (omega (arith, length-drop start all, d.size)) ∙ d.text)
