-- Laws of the search for some element.
use mathlib.Core.Path.{◌≡◌, refl, ap, ◌∙◌}
use mathlib.Core.Bool.{Bool, ◌||◌}
use mathlib.Core.List.{List, [], ◌∷◌, map}
use Prim.Native.Nat.{ℕ, ◌/◌, ◌<◌}
use native.Mathlib.Omega.{arith}
use lib.ListN.{length, get_or}
use Rattle.gdl.specs.declared.arrays.AtomArrays.{AtomArrays}
use Rattle.gdl.specs.declared.arrays.ClauseArrays.{ClauseArrays}
use Rattle.std.specs.List.{list_any}
use Rattle.std.proofs.lemmas.List.{get_or_default}
use Rattle.rules.specs.Rules.{some}
use Rattle.judge.specs.Arrays.{LiteralsOver, RolesShaped, RoleAsked}

-- the library's test of some element, also of what a list maps to
pub some_any : (f : ℕ → Bool) (xs : List ℕ) → list_any f xs ≡ some f xs
some_any f [] = refl
some_any f (x ∷ xs) = ap (λ b. f x || b) (some_any f xs)

pub some_map : {X : Type 0} (f : ℕ → Bool) (g : X → ℕ) (xs : List X) → list_any (λ x. f (g x)) xs ≡ some f (map g xs)
some_map f g [] = refl
some_map f g (x ∷ xs) = ap (λ b. f (g x) || b) (some_map f g xs)

-- the element x at place k of the literals
pub literal_in : (kinds literals : List ℕ) → LiteralsOver kinds literals → (k : ℕ) → k < length literals → (x : ℕ) → x ≡ get_or literals k x → x / 2 < length kinds
literal_in kinds literals h k lt x e = let same : x ≡ get_or literals k 0 = e ∙ get_or_default literals k x 0 lt in omega (arith, h.atoms k lt, ap (λ (y : ℕ). y / 2) same)

-- and of the heads
pub role_in : (a : AtomArrays) (c : ClauseArrays) → RolesShaped a c → (i : ℕ) → i < length c.heads.now → (x : ℕ) → x ≡ get_or c.heads.now i x → RoleAsked a x
role_in a c s i lt x e = let same : x ≡ get_or c.heads.now i 0 = e ∙ get_or_default c.heads.now i x 0 lt in record { kind = omega (arith, s.atoms i lt); first = omega (arith, s.atoms i lt, s.same) }
