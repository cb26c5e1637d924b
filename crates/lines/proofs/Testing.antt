-- Laws of a test of every byte.
use Prim.Native.Nat.{ℕ, zero, suc, ◌<◌}
use native.Mathlib.Omega.{arith}
use mathlib.Core.Path.{◌≡◌, refl}
use mathlib.Core.Bool.{Bool, true, false, ◌&&◌}
use mathlib.Core.List.{List, [], ◌∷◌, ◌++◌}
use lib.ListN.{length, get_or}
use Rattle.std.specs.List.{list_all}
use Rattle.std.proofs.lemmas.List.Recursion.{same_from_clauses}
use Rattle.lines.specs.Every.{every}

pub both_left : (a b : Bool) → a && b ≡ true → a ≡ true
both_left true b e = refl
both_left false b e = e

pub both_right : (a b : Bool) → a && b ≡ true → b ≡ true
both_right true b e = e
both_right false true e = refl
both_right false false e = e

pub every_append : (test : ℕ → Bool) (a b : List ℕ) → every test a ≡ true → every test b ≡ true → every test (a ++ b) ≡ true
every_append test [] b e f = f
every_append test (x ∷ a) b e f = rw (both_left (test x) (every test a) e) (every_append test a b (both_right (test x) (every test a) e) f)

-- what holds of every byte holds of each
pub each : (test : ℕ → Bool) (w : List ℕ) → every test w ≡ true → (i : ℕ) → i < length w → test (get_or w i 0) ≡ true
each test [] e i h = absurd (omega arith)
each test (b ∷ w) e zero h = both_left (test b) (every test w) e
each test (b ∷ w) e (suc i) h = each test w (both_right (test b) (every test w) e) i (omega arith)

-- the library's word for the same
pub all_every : (test : ℕ → Bool) (w : List ℕ) → list_all test w ≡ every test w
all_every test w = same_from_clauses (list_all test) (every test) (λ x b. test x && b) refl (λ _ _. refl) (λ _ _. refl) w
