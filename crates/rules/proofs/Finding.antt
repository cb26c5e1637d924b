-- Laws of elements and of places: what a test of some element, or of some number below a bound, finds; what stands at a place of a list.
use mathlib.Core.Path.{◌≡◌, refl, ap₂, subst}
use mathlib.Core.Logic.{inl, inr}
use mathlib.Core.Bool.{Bool, not, ◌||◌}
use mathlib.Core.List.{List, [], ◌∷◌, map, Memᴰ}
use Prim.Native.Nat.{ℕ, zero, suc, ◌<◌}
use native.Mathlib.Nat.{not-suc-le-zero}
use native.Mathlib.Omega.{arith}
use native.Mathlib.Decide.{ℕ_discrete}
use lib.Dec.{T, eqb, eqb→eq, T_not}
use Rattle.gdl.proofs.Tests.{and_left, and_right, or_left, or_right, or_cases}
use Rattle.rules.specs.Rules.{some, one_of}
use Rattle.rules.specs.Judged.{disjoint, some_below}

-- ---- some element passes

module _ {A : Type 0} (f : A → Bool) where
  pub some_make : (xs : List A) (x : A) → Memᴰ x xs → T (f x) → T (some f xs)
  some_make [] x m t = elim m [ ]
  some_make (y ∷ ys) x (Memᴰ.head e) t = or_left (f y) (some f ys) (subst (λ z. T (f z)) e t)
  some_make (y ∷ ys) x (Memᴰ.tail m) t = or_right (f y) (some f ys) (some_make ys x m t)

  pub some_find : (xs : List A) → T (some f xs) → (x : A) × Memᴰ x xs × T (f x)
  some_find [] t = absurd t
  some_find (y ∷ ys) t = elim (or_cases (f y) (some f ys) t) [
    | inl u ↦ (y, Memᴰ.head refl, u)
    | inr u ↦ let r = some_find ys u in (r.0, Memᴰ.tail r.1, r.2)
  ]

-- a test of the images, and one of the elements
pub some_agree : {A B : Type 0} (f : B → Bool) (g : A → B) (h : A → Bool) (xs : List A) → ((x : A) → Memᴰ x xs → f (g x) ≡ h x) → some f (map g xs) ≡ some h xs
some_agree f g h [] e = refl
some_agree f g h (x ∷ xs) e = ap₂ ◌||◌ (e x (Memᴰ.head refl)) (some_agree f g h xs (λ y m. e y (Memᴰ.tail m)))

-- ---- some number below n passes

module _ (f : ℕ → Bool) where
  pub below_make : (n q : ℕ) → q < n → T (f q) → T (some_below f n)
  below_make zero q lt t = absurd (not-suc-le-zero lt)
  below_make (suc n) q lt t = elim (ℕ_discrete q n) [
    | yes e ↦ or_left (f n) (some_below f n) (subst (λ (x : ℕ). T (f x)) e t)
    | no ne ↦ or_right (f n) (some_below f n) (below_make n q (omega arith) t)
  ]

  pub below_find : (n : ℕ) → T (some_below f n) → (q : ℕ) × (q < n) × T (f q)
  below_find zero t = absurd t
  below_find (suc n) t = elim (or_cases (f n) (some_below f n) t) [
    | inl u ↦ (n, omega arith, u)
    | inr u ↦ let r = below_find n u in (r.0, omega (arith, r.1), r.2)
  ]

-- ---- kinds

pub apart : (these those : List ℕ) → T (disjoint these those) → (k : ℕ) → T (one_of these k) → T (one_of those k) → ⊥
apart [] those d k s t = s
apart (j ∷ these) those d k s t = elim (or_cases (eqb k j) (one_of these k) s) [
  | inl e ↦ T_not (one_of those j) (and_left (not (one_of those j)) (disjoint these those) d) (subst (λ (x : ℕ). T (one_of those x)) (eqb→eq k j e) t)
  | inr u ↦ apart these those (and_right (not (one_of those j)) (disjoint these those) d) k u t
]
