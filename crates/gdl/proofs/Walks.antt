-- Laws of the three walks over 0, 1, 2, ..
use mathlib.Core.Path.{◌≡◌, refl, sym, ap, ap₂, subst, ◌∙◌}
use mathlib.Core.Logic.{◌↔◌}
use mathlib.Core.Bool.{Bool, true, false, ◌||◌, cond}
use mathlib.Core.List.{List, [], ◌∷◌}
use Prim.Native.Nat.{ℕ, zero, suc, ◌+◌, ◌≤◌, ◌<◌}
use native.Mathlib.Nat.{not-suc-le-zero}
use native.Mathlib.Omega.{arith}
use native.Mathlib.Decide.{ℕ_discrete, dec_lt}
use lib.Dec.{T, eqb}
use borrow.Author.Tests.{ne_eqb, eq-eqb}
use lib.ListN.{length, get_or, set, length-set}
use lib.Seq.{ext_get_or, get_or-set_same, get_or-set_other}
use Rattle.gdl.specs.Flags.{on, bit, blank}
use Rattle.gdl.proofs.Tests.{and_left, and_right, and_both}
use Rattle.gdl.specs.Lists.{flags_from, those_from, every_from, flags, those, every}

pub zeros : (n p : ℕ) → get_or (blank n) p 0 ≡ 0
zeros zero p = refl
zeros (suc n) zero = refl
zeros (suc n) (suc p) = zeros n p

-- ---- flags

flag_at : (f : ℕ → Bool) (i n k : ℕ) → k < n → get_or (flags_from f i n) k 0 ≡ bit (f (i + k))
flag_at f i zero k lt = absurd (not-suc-le-zero lt)
flag_at f i (suc n) zero lt = let s : i ≡ i + 0 = omega arith in ap (λ (x : ℕ). bit (f x)) s
flag_at f i (suc n) (suc k) lt = let s : suc i + k ≡ i + suc k = omega arith in flag_at f (suc i) n k (omega arith) ∙ ap (λ (x : ℕ). bit (f x)) s

past : (f : ℕ → Bool) (i n k : ℕ) → n ≤ k → get_or (flags_from f i n) k 0 ≡ 0
past f i zero k le = refl
past f i (suc n) zero le = absurd (not-suc-le-zero le)
past f i (suc n) (suc k) le = past f (suc i) n k (omega arith)

bit_on : (b : Bool) → T (eqb (bit b) 1) ↔ T b
bit_on true = (λ x. tt, λ x. tt)
bit_on false = (λ x. x, λ x. x)

pub flag_on : (n : ℕ) (f : ℕ → Bool) (k : ℕ) → T (on (flags n f) k) ↔ ((k < n) × T (f k))
flag_on n f k = (
  λ x. elim (dec_lt k n) [ yes lt ↦ (lt, (bit_on (f k)).0 (rw (at lt) at x)) | no ge ↦ absurd (rw (past f 0 n k (omega arith)) at x) ],
  λ p. rw (at p.0) ((bit_on (f k)).1 p.1),
)
  where
    at : k < n → get_or (flags_from f 0 n) k 0 ≡ bit (f k)
    at lt = let e : 0 + k ≡ k = omega arith in flag_at f 0 n k lt ∙ ap (λ (x : ℕ). bit (f x)) e

-- a flag is the same where the tests agree
pub flag_same : (f g : ℕ → Bool) (n k : ℕ) → f k ≡ g k → on (flags n f) k ≡ on (flags n g) k
flag_same f g n k e = let s : k ≡ 0 + k = omega arith in ap (λ (x : ℕ). eqb x 1) (go 0 n k (subst (λ (x : ℕ). f x ≡ g x) s e))
  where
    go : (i n k : ℕ) → f (i + k) ≡ g (i + k) → get_or (flags_from f i n) k 0 ≡ get_or (flags_from g i n) k 0
    go i zero k e = refl
    go i (suc n) zero e = let s : i + 0 ≡ i = omega arith in ap bit (subst (λ (x : ℕ). f x ≡ g x) s e)
    go i (suc n) (suc k) e = let s : i + suc k ≡ suc i + k = omega arith in go (suc i) n k (subst (λ (x : ℕ). f x ≡ g x) s e)

-- two lists of flags are equal where the tests agree; and one flag more
pub flags_same : (f g : ℕ → Bool) (n : ℕ) → ((k : ℕ) → k < n → f k ≡ g k) → flags n f ≡ flags n g
flags_same f g n e = go 0 n (λ k a b. e k (omega arith))
  where
    go : (i n : ℕ) → ((k : ℕ) → i ≤ k → k < i + n → f k ≡ g k) → flags_from f i n ≡ flags_from g i n
    go i zero e = refl
    go i (suc n) e = ap₂ (λ (b : Bool) (r : List ℕ). bit b ∷ r) (e i (omega arith) (omega arith)) (go (suc i) n (λ k a b. e k (omega arith) (omega arith)))

pub flags_length : (f : ℕ → Bool) (i n : ℕ) → length (flags_from f i n) ≡ n
flags_length f i zero = refl
flags_length f i (suc n) = ap suc (flags_length f (suc i) n)

pub flag_is : (f : ℕ → Bool) (n k : ℕ) → k < n → get_or (flags n f) k 0 ≡ bit (f k)
flag_is f n k lt = let e : 0 + k ≡ k = omega arith in flag_at f 0 n k lt ∙ ap (λ (x : ℕ). bit (f x)) e

pub flags_set : (f : ℕ → Bool) (n k : ℕ) → k < n → set (flags n f) k 1 ≡ flags n (λ j. f j || eqb k j)
flags_set f n k lt = ext_get_or 0 (set (flags n f) k 1) (flags n g) (long ∙ sym (flags_length g 0 n)) (λ j h. at j (omega (arith, long)))
  where
    g : ℕ → Bool
    g j = f j || eqb k j

    long : length (set (flags n f) k 1) ≡ n
    long = length-set (flags n f) k 1 ∙ flags_length f 0 n

    or_true : (b : Bool) → bit (b || true) ≡ 1
    or_true true = refl
    or_true false = refl

    or_false : (b : Bool) → bit (b || false) ≡ bit b
    or_false true = refl
    or_false false = refl

    at : (j : ℕ) → j < n → get_or (set (flags n f) k 1) j 0 ≡ get_or (flags n g) j 0
    at j h = elim (ℕ_discrete j k) [
      | yes e ↦ rw (e, flag_is g n k lt, eq-eqb k k refl, or_true (f k)) (get_or-set_same (flags n f) k 1 0 (omega (arith, flags_length f 0 n)))
      | no ne ↦ get_or-set_other (flags n f) k j 1 0 ne ∙ (flag_is f n j h ∙ sym (flag_is g n j h ∙ rw (ne_eqb k j (λ e. ne (sym e))) (or_false (f j))))
    ]

-- ---- those that pass

pub those_same : (f g : ℕ → Bool) (n : ℕ) → ((k : ℕ) → k < n → f k ≡ g k) → those n f ≡ those n g
those_same f g n e = go 0 n (λ k a b. e k (omega arith))
  where
    go : (i n : ℕ) → ((k : ℕ) → i ≤ k → k < i + n → f k ≡ g k) → those_from f i n ≡ those_from g i n
    go i zero e = refl
    go i (suc n) e = ap₂ (λ (b : Bool) (r : List ℕ). cond b (i ∷ r) r) (e i (omega arith) (omega arith)) (go (suc i) n (λ k a b. e k (omega arith) (omega arith)))

-- ---- every element

module _ (f : ℕ → ℕ → Bool) where
  pub every_set : (i : ℕ) (l : List ℕ) (k y : ℕ) → T (every_from f i l) → T (f (i + k) y) → T (every_from f i (set l k y))
  every_set i [] k y t u = tt
  every_set i (x ∷ l) zero y t u =
      let s : i + 0 ≡ i = omega arith in
      and_both (f i y) (every_from f (suc i) l) (subst (λ (z : ℕ). T (f z y)) s u) (and_right (f i x) (every_from f (suc i) l) t)
  every_set i (x ∷ l) (suc k) y t u =
      let s : i + suc k ≡ suc i + k = omega arith in
      and_both (f i x) (every_from f (suc i) (set l k y)) (and_left (f i x) (every_from f (suc i) l) t)
      (every_set (suc i) l k y (and_right (f i x) (every_from f (suc i) l) t) (subst (λ (z : ℕ). T (f z y)) s u))

  every_from_lem : (i : ℕ) (l : List ℕ) → T (every_from f i l) ↔ ((k : ℕ) → k < length l → T (f (i + k) (get_or l k 0)))
  every_from_lem i [] = (λ t k lt. absurd (not-suc-le-zero lt), λ h. tt)
  every_from_lem i (x ∷ l) = (
    λ t. go (and_left (f i x) (every_from f (suc i) l) t) ((every_from_lem (suc i) l).0 (and_right (f i x) (every_from f (suc i) l) t)),
    λ h. and_both (f i x) (every_from f (suc i) l) (subst (λ (z : ℕ). T (f z x)) (omega arith) (h 0 (omega arith)))
        ((every_from_lem (suc i) l).1 (λ k lt. subst (λ (z : ℕ). T (f z (get_or l k 0))) (omega arith) (h (suc k) (omega arith)))),
  )
    where
      go : T (f i x) → ((k : ℕ) → k < length l → T (f (suc i + k) (get_or l k 0))) → (k : ℕ) → k < suc (length l) → T (f (i + k) (get_or (x ∷ l) k 0))
      go t h zero lt = subst (λ (z : ℕ). T (f z x)) (omega arith) t
      go t h (suc k) lt = subst (λ (z : ℕ). T (f z (get_or l k 0))) (omega arith) (h k (omega arith))

  pub every_means : (l : List ℕ) → T (every f l) ↔ ((k : ℕ) → k < length l → T (f k (get_or l k 0)))
  every_means l = (
    λ t k lt. subst (λ (z : ℕ). T (f z (get_or l k 0))) (omega arith) ((every_from_lem 0 l).0 t k lt),
    λ h. (every_from_lem 0 l).1 (λ k lt. subst (λ (z : ℕ). T (f z (get_or l k 0))) (omega arith) (h k lt)),
  )

pub blank_fits : (f : ℕ → ℕ → Bool) → ((k : ℕ) → T (f k 0)) → (n : ℕ) → T (every f (blank n))
blank_fits f zero-fits n = go 0 n
  where
    go : (i n : ℕ) → T (every_from f i (blank n))
    go i zero = tt
    go i (suc n) = and_both (f i 0) (every_from f (suc i) (blank n)) (zero-fits i) (go (suc i) n)
