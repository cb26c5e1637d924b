-- Laws of tests in their order: when all are kept, when one strikes, and what an answer is then.
use mathlib.Core.Path.{◌≡◌, refl, sym, ◌∙◌}
use mathlib.Core.Bool.{Bool, true, false, cond}
use mathlib.Core.List.{List, [], ◌∷◌}
use Prim.Native.Nat.{ℕ, ◌<◌}
use native.Mathlib.Omega.{arith}
use lib.Dec.{T}
use Rattle.refusals.specs.declared.Refusal.{Refusal}
use Rattle.refusals.specs.declared.Refusal.TheVariants.{Success}
use Rattle.refusals.specs.Ruling.{Found, nowhere, found, lowest, Test, Ruling, passed, refused, or_else, first_of}
use Rattle.refusals.proofs.Ruling.{by_lowest}
use Rattle.calls.specs.Answer.{is_success, settle}

-- ---- a Bool as a fact

pub is_true_lem : (b : Bool) → T b → b ≡ true
is_true_lem true t = refl
is_true_lem false t = absurd t

pub is_false : (b : Bool) → ¬ T b → b ≡ false
is_false true h = absurd (h tt)
is_false false h = refl

pub from_true : (b : Bool) → b ≡ true → T b
from_true b e = rw e tt

pub from_false : (b : Bool) → b ≡ false → ¬ T b
from_false b e t = rw e at t

-- ---- one test

-- a test at place 0 that does not strike
pub kept : (b : Bool) → cond b (found 0) nowhere ≡ nowhere → b ≡ false
kept true e = cc
kept false e = refl

-- a test at the lowest place that strikes nowhere
pub lowest_nowhere : (f : ℕ → Bool) (n : ℕ) → lowest f 0 n ≡ nowhere → (q : ℕ) → q < n → f q ≡ false
lowest_nowhere f n = by_lowest f 0 n (λ (r : Found). r ≡ nowhere → (q : ℕ) → q < n → f q ≡ false)
    (λ none e q lt. is_false (f q) (none q (omega arith) (omega arith)))
    (λ p s e. let z : ◌≡◌ {A = ℕ} 0 1 = cc in absurd (omega arith))

pub no_lowest : (f : ℕ → Bool) (n : ℕ) → ((q : ℕ) → q < n → f q ≡ false) → lowest f 0 n ≡ nowhere
no_lowest f n h = by_lowest f 0 n (λ (r : Found). r ≡ nowhere) (λ none. refl) (λ p s. absurd (from_false (f p) (h p (omega (arith, s.below))) s.passes))

-- ---- tests in their order

abbrev pub AllKept : List Test → Type 0
AllKept [] = Unit {0}
AllKept (x ∷ xs) = (x.strikes ≡ nowhere) × AllKept xs

-- what each test refuses with has P
abbrev pub Refusing : (Refusal → Type 0) → List Test → Type 0
Refusing P [] = Unit {0}
Refusing P (x ∷ xs) = ((p : ℕ) → P (x.refusal p)) × Refusing P xs

abbrev pub Fails : Refusal → Type 0
Fails r = is_success r ≡ false

pub passed_kept : (l : List Test) → first_of l ≡ passed → AllKept l
passed_kept [] e = tt
passed_kept (x ∷ xs) e = go x.strikes (passed_kept xs) e
  where
    go : (f : Found) → (first_of xs ≡ passed → AllKept xs) → or_else x.refusal f (first_of xs) ≡ passed → (f ≡ nowhere) × AllKept xs
    go nowhere k e = (refl, k e)
    go (found p) k e = let z : ◌≡◌ {A = ℕ} 0 1 = cc in absurd (omega arith)

pub refused_by_lem : (P : Refusal → Type 0) (l : List Test) (r : Refusal) → Refusing P l → first_of l ≡ refused r → P r
refused_by_lem P [] r n e = let z : ◌≡◌ {A = ℕ} 0 1 = cc in absurd (omega arith)
refused_by_lem P (x ∷ xs) r n e = go x.strikes (refused_by_lem P xs r n.1) e
  where
    go : (f : Found) → (first_of xs ≡ refused r → P r) → or_else x.refusal f (first_of xs) ≡ refused r → P r
    go nowhere k e = k e
    go (found p) k e = let s : r ≡ x.refusal p = cc in rw s (n.0 p)

-- ---- an answer

-- a fact about an answer: where each test is kept, and where one strikes
pub by_ruling {ℓ} : {W : Type ℓ} (P : W → Type 0) (l : List Test) (refusal : Refusal → W) (work : W)
    → (AllKept l → P work) → ((r : Refusal) → first_of l ≡ refused r → P (refusal r)) → P (settle (first_of l) refusal work)
by_ruling {W = W} P l refusal work f g = go (first_of l) refl
  where
    go : (a : Ruling) → first_of l ≡ a → P (settle a refusal work)
    go passed e = f (passed_kept l e)
    go (refused r) e = g r e

-- an answer of Success comes only where every test is kept
pub success_kept {ℓ} : {W : Type ℓ} (refusal_of : W → Refusal) (l : List Test) (refusal : Refusal → W) (work : W)
    → Refusing Fails l → ((r : Refusal) → refusal_of (refusal r) ≡ r) → refusal_of (settle (first_of l) refusal work) ≡ Success → AllKept l
success_kept {W = W} refusal_of l refusal work n f e = go (first_of l) refl e
  where
    go : (a : Ruling) → first_of l ≡ a → refusal_of (settle a refusal work) ≡ Success → AllKept l
    go passed q z = passed_kept l q
    go (refused r) q z =
        let s : r ≡ Success = sym (f r) ∙ z in
        let w : is_success Success ≡ false = rw s at (refused_by_lem Fails l r n q) in
        absurd (from_false (is_success Success) w tt)
