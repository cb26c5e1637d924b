-- The numbers below a bound that pass a test are the ascending list of the set that the test stands for.
use mathlib.Core.Path.{◌≡◌, refl, sym, subst}
use mathlib.Core.Logic.{◌↔◌}
use mathlib.Core.Bool.{Bool, true, false, cond}
use mathlib.Core.List.Memᴰ
use mathlib.Core.List.{List, [], ◌∷◌, Memᴰ}
use Prim.Native.Nat.{ℕ, zero, suc, ◌+◌, ◌≤◌, ◌<◌}
use native.Mathlib.Omega.{arith}
use native.Mathlib.Decide.{ℕ_discrete}
use lib.Dec.{T}
use Rattle.gdl.specs.Lists.{those_from, those}
use Rattle.calls.specs.Published.{Below, Ascending, Lists}

listed_in : (f : ℕ → Bool) (i n k : ℕ) → Memᴰ k (those_from f i n) → (i ≤ k) × (k < i + n) × T (f k)
listed_in f i zero k m = absurd (Memᴰ.not-nil m)
listed_in f i (suc n) k m = go (f i) refl (those_from f (suc i) n) (listed_in f (suc i) n k) m
  where
    go : (b : Bool) → f i ≡ b → (r : List ℕ) → (Memᴰ k r → (suc i ≤ k) × (k < suc i + n) × T (f k)) → Memᴰ k (cond b (i ∷ r) r) → (i ≤ k) × (k < i + suc n) × T (f k)
    go true e r h (Memᴰ.head q) = (omega arith, omega arith, subst (λ (x : ℕ). T (f x)) (sym q) (rw e tt))
    go true e r h (Memᴰ.tail m) = let w = h m in (omega (arith, w.0), omega (arith, w.1), w.2)
    go false e r h m = let w = h m in (omega (arith, w.0), omega (arith, w.1), w.2)

listed : (f : ℕ → Bool) (i n k : ℕ) → i ≤ k → k < i + n → T (f k) → Memᴰ k (those_from f i n)
listed f i zero k a b x = absurd (omega arith)
listed f i (suc n) k a b x = go (f i) refl (those_from f (suc i) n) (λ lt. listed f (suc i) n k lt (omega arith) x)
  where
    go : (c : Bool) → f i ≡ c → (r : List ℕ) → (suc i ≤ k → Memᴰ k r) → Memᴰ k (cond c (i ∷ r) r)
    go true e r h = elim (ℕ_discrete k i) [ yes q ↦ Memᴰ.head q | no ne ↦ Memᴰ.tail (h (omega arith)) ]
    go false e r h = elim (ℕ_discrete k i) [ yes q ↦ absurd (rw e at (subst (λ (y : ℕ). T (f y)) q x)) | no ne ↦ h (omega arith) ]

abbrev AtLeast : ℕ → List ℕ → Type 0
AtLeast i [] = Unit {0}
AtLeast i (y ∷ ys) = i ≤ y

weaken : (i : ℕ) (xs : List ℕ) → AtLeast (suc i) xs → AtLeast i xs
weaken i [] h = tt
weaken i (y ∷ ys) h = omega arith

below : (i : ℕ) (xs : List ℕ) → AtLeast (suc i) xs → Below i xs
below i [] h = tt
below i (y ∷ ys) h = h

rises : (f : ℕ → Bool) (i n : ℕ) → AtLeast i (those_from f i n) × Ascending (those_from f i n)
rises f i zero = (tt, tt)
rises f i (suc n) = go (f i) (those_from f (suc i) n) (rises f (suc i) n)
  where
    go : (b : Bool) (r : List ℕ) → AtLeast (suc i) r × Ascending r → AtLeast i (cond b (i ∷ r) r) × Ascending (cond b (i ∷ r) r)
    go true r h = (omega arith, (below i r h.0, h.1))
    go false r h = (weaken i r h.0, h.1)

pub those_list : (n : ℕ) (f : ℕ → Bool) (P : ℕ → Type 0) → ((k : ℕ) → ((k < n) × T (f k)) ↔ P k) → Lists P (those n f)
those_list n f P h = record {
  ascending = (rises f 0 n).1;
  exactly = λ k. (λ m. let w = listed_in f 0 n k m in (h k).0 (omega (arith, w.1), w.2), λ p. let w = (h k).1 p in listed f 0 n k (omega arith) (omega (arith, w.0)) w.1);
}

pub none_list : (P : ℕ → Type 0) → ((k : ℕ) → P k → ⊥) → Lists P []
none_list P h = record { ascending = tt; exactly = λ k. (λ m. absurd (Memᴰ.not-nil m), λ p. absurd (h k p)) }
