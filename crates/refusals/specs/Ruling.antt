-- Tests in their order, the first that strikes deciding; a test may strike at the lowest of several places.
use Rattle.std.specs.Prelude.{Bool, cond, List, [], ◌∷◌, ℕ, zero, suc}
use Rattle.refusals.specs.declared.Refusal.{Refusal}

-- where a test strikes
pub data Found : Type 0 where
  nowhere : Found
  found : ℕ → Found

-- the lowest of i, i + 1, .., n of them, that passes
abbrev pub lowest : (ℕ → Bool) → ℕ → ℕ → Found
lowest f i zero = nowhere
lowest f i (suc n) = let r : Found = lowest f (suc i) n in cond (f i) (found i) r

-- one test: the refusal at the place where it strikes
pub record Test : Type 0 where
  pub refusal : ℕ → Refusal
  pub strikes : Found

infix 75 refuse◌when◌
-- a test whose place is 0
abbrev pub refuse◌when◌ : Refusal → Bool → Test
refuse r when b = record { refusal = λ p. r; strikes = cond b (found 0) nowhere }

infix 75 refuse◌at_lowest_of◌if◌
-- a test whose place is the lowest of the first n numbers at which it strikes
abbrev pub refuse◌at_lowest_of◌if◌ : (ℕ → Refusal) → ℕ → (ℕ → Bool) → Test
refuse r at_lowest_of n if f = record { refusal = r; strikes = lowest f 0 n }

-- what the tests come to
pub data Ruling : Type 0 where
  passed : Ruling
  refused : Refusal → Ruling

abbrev pub or_else : (ℕ → Refusal) → Found → Ruling → Ruling
or_else r nowhere rest = rest
or_else r (found p) rest = refused (r p)

abbrev pub first_of : List Test → Ruling
first_of [] = passed
first_of (x ∷ xs) = let rest : Ruling = first_of xs in or_else x.refusal x.strikes rest
