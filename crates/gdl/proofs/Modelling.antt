-- The computed levels of a set of clauses make its standard model.
use mathlib.Core.Path.{◌≡◌, refl}
use mathlib.Core.List.{List, Memᴰ}
use Prim.Native.Nat.{ℕ, zero, suc, ◌<◌}
use lib.Dec.{T, eqb}
use lib.ListN.{length}
use Rattle.gdl.specs.Game.{Clause}
use Rattle.gdl.specs.Sets.{Atoms, ◌⊆◌}
use Rattle.gdl.specs.Standard.{head_of, body_holds, level_test, Upto, Standard}
use Rattle.gdl.specs.Flags.{on}
use Rattle.gdl.specs.Computed.{run}
use Rattle.gdl.proofs.Tests.{and_elim, and_both, body_mono'}
use Rattle.gdl.proofs.Closing.{close_length, close_least}

pub level_mono : (ℓ : ℕ → ℕ) (n : ℕ) (N X Y : Atoms) → X ⊆ Y → (c : Clause) → T (level_test ℓ n N X c) → T (level_test ℓ n N Y c)
level_mono ℓ n N X Y f c = and_elim (eqb (ℓ c.head) n) (body_holds N X c.body)
    (λ s t. and_both (eqb (ℓ c.head) n) (body_holds N Y c.body) s (body_mono' N X Y c.body f t))

module _ (A : ℕ) (C : List Clause) (fit : (c : Clause) → Memᴰ c C → c.head < A) where
  module _ (ℓ : ℕ → ℕ) (F : List ℕ) (size : length F ≡ A) where
    pub run_length : (n : ℕ) → length (run C ℓ F n) ≡ A
    unfolding run
    run_length zero = size
    run_length (suc n) = let L : List ℕ = run C ℓ F n in close_length head_of (level_test ℓ n (on L)) (level_mono ℓ n (on L)) A C fit L (run_length n)

    pub run_upto : (n : ℕ) → Upto C ℓ (on F) n (on (run C ℓ F n))
    unfolding run
    run_upto zero = λ p. refl
    run_upto (suc n) = let L : List ℕ = run C ℓ F n in (on L, run_upto n, close_least head_of (level_test ℓ n (on L)) (level_mono ℓ n (on L)) A C fit L (run_length n))

    pub run_standard : (top : ℕ) → ((c : Clause) → Memᴰ c C → ℓ c.head < top) → Standard C ℓ (on F) (on (run C ℓ F top))
    run_standard top heads = record { top = top; heads = heads; upto = run_upto top }
