-- The law of the lowest place.
use mathlib.Core.Path.{◌≡◌, refl, subst}
use mathlib.Core.Bool.{Bool, true, false, cond}
use Prim.Native.Nat.{ℕ, zero, suc, ◌+◌, ◌≤◌, ◌<◌}
use native.Mathlib.Omega.{arith}
use native.Mathlib.Decide.{ℕ_discrete}
use lib.Dec.{T}
use Rattle.refusals.specs.Ruling.{Found, nowhere, found, lowest}

-- p is the lowest of i, i + 1, .., n of them, that passes
pub record LowestOf (f : ℕ → Bool) (i n p : ℕ) : Type 0 where
  pub passes : T (f p)
  pub from : i ≤ p
  pub below : p < i + n
  pub lowest : (q : ℕ) → i ≤ q → q < p → T (f q) → ⊥

-- a fact of the lowest place, from the two ways that the search may end
pub by_lowest : (f : ℕ → Bool) (i n : ℕ) (P : Found → Type 0) → (((q : ℕ) → i ≤ q → q < i + n → T (f q) → ⊥) → P nowhere)
    → ((p : ℕ) → LowestOf f i n p → P (found p)) → P (lowest f i n)
by_lowest f i zero P none some = none (λ q a b t. omega arith)
by_lowest f i (suc n) P none some = go (f i) refl (by_lowest f (suc i) n P)
  where
    shut : f i ≡ false → (q : ℕ) → q ≡ i → T (f q) → ⊥
    shut e q s t = subst T e (subst (λ (x : ℕ). T (f x)) s t)

    later : f i ≡ false → (p : ℕ) → LowestOf f (suc i) n p → LowestOf f i (suc n) p
    later e p s = record {
      passes = s.passes;
      from = omega (arith, s.from);
      below = omega (arith, s.below);
      lowest = λ q a b t. elim (ℕ_discrete q i) [ yes d ↦ shut e q d t | no ne ↦ s.lowest q (omega arith) b t ];
    }

    go : (b : Bool) → f i ≡ b
        → ((((q : ℕ) → suc i ≤ q → q < suc i + n → T (f q) → ⊥) → P nowhere) → ((p : ℕ) → LowestOf f (suc i) n p → P (found p)) → P (lowest f (suc i) n))
        → P (cond b (found i) (lowest f (suc i) n))
    go true e rest = some i (record { passes = rw e tt; from = omega arith; below = omega arith; lowest = λ q a b t. omega arith })
    go false e rest = rest
        (λ h. none (λ q a b t. elim (ℕ_discrete q i) [ yes s ↦ shut e q s t | no ne ↦ h q (omega arith) (omega arith) t ]))
        (λ p s. some p (later e p s))
