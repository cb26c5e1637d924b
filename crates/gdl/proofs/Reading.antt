-- Laws of reading a set of atoms by the atoms' records, and of flags that the records give.
use mathlib.Core.Path.{◌≡◌, refl, sym, ap, ap₂, ◌∙◌}
use mathlib.Core.Logic.{inl, inr}
use mathlib.Core.Bool.{Bool, true, false, ◌&&◌, ◌||◌}
use mathlib.Core.List.{List, [], ◌∷◌, map}
use Prim.Native.Nat.{ℕ, zero, suc, ◌<◌}
use native.Mathlib.Nat.{not-suc-le-zero}
use native.Mathlib.Omega.{arith}
use borrow.Author.Tests.{le-ltb, lt-ltb}
use lib.Dec.{T, eqb, ltb, leb-suc-suc}
use lib.ListN.{length, get_or}
use Rattle.gdl.specs.Game.{Atom}
use Rattle.gdl.specs.Sets.{Atoms}
use Rattle.gdl.specs.Flags.{on, bit}
use Rattle.gdl.specs.Computed.{any_of}
use Rattle.gdl.proofs.Tests.{and_left, and_right, and_both, and_agree, or_left, or_right, or_cases}

module _ (f : Atom → Bool) (d : Atom) where
  pub any_make : (l : List Atom) (X : Atoms) (p : ℕ) → p < length l → T (f (get_or l p d)) → T (X p) → T (any_of f l X)
  any_make [] X p h t x = absurd (not-suc-le-zero h)
  any_make (a ∷ l) X zero h t x = or_left (f a && X 0) (any_of f l (λ k. X (suc k))) (and_both (f a) (X 0) t x)
  any_make (a ∷ l) X (suc p) h t x = or_right (f a && X 0) (any_of f l (λ k. X (suc k))) (any_make l (λ k. X (suc k)) p (omega arith) t x)

  pub any_find : (l : List Atom) (X : Atoms) → T (any_of f l X) → (p : ℕ) × (p < length l) × T (f (get_or l p d)) × T (X p)
  any_find [] X x = absurd x
  any_find (a ∷ l) X x = elim (or_cases (f a && X 0) (any_of f l (λ k. X (suc k))) x) [
    | inl y ↦ (0, omega arith, and_left (f a) (X 0) y, and_right (f a) (X 0) y)
    | inr y ↦ let r = any_find l (λ k. X (suc k)) y in (suc r.0, omega (arith, r.1), r.2, r.3)
  ]

  pub any_agree : (l : List Atom) (X Y : Atoms) → ((p : ℕ) → p < length l → T (f (get_or l p d)) → X p ≡ Y p) → any_of f l X ≡ any_of f l Y
  any_agree [] X Y h = refl
  any_agree (a ∷ l) X Y h = ap₂ ◌||◌ (and_agree (f a) (X 0) (Y 0) (h 0 (omega arith))) (any_agree l (λ k. X (suc k)) (λ k. Y (suc k)) (λ p lt. h (suc p) (omega arith)))

  -- the flags of the atoms that pass f
  pub flags_on : (l : List Atom) (p : ℕ) → on (map (λ a. bit (f a)) l) p ≡ (ltb p (length l) && f (get_or l p d))
  flags_on [] p = rw (le-ltb p 0 (omega arith)) refl
  flags_on (a ∷ l) zero = rw (lt-ltb 0 (suc (length l)) (omega arith)) (go (f a))
    where
      go : (b : Bool) → eqb (bit b) 1 ≡ b
      go true = refl
      go false = refl
  flags_on (a ∷ l) (suc p) = flags_on l p ∙ ap (λ (b : Bool). b && f (get_or l p d)) (sym (leb-suc-suc (suc p) (length l)))
