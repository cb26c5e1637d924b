-- The index of the clauses by their heads, and of the next and init atoms by their fluents: both start empty, and take one more from the last down.
use mathlib.Core.Path.{◌≡◌, refl, sym, subst, ◌∙◌}
use mathlib.Core.Bool.{Bool, true, false}
use mathlib.Core.List.{List}
use Prim.Native.Nat.{ℕ, ◌-◌, ◌<◌}
use native.Mathlib.Omega.{arith}
use lib.Dec.{T}
use lib.ListN.{length, get_or, set}
use Rattle.edges.proofs.Chains.{chain_starts, chain_more, chain_skip}
use Rattle.gdl.specs.declared.arrays.AtomArrays.{AtomArrays}
use Rattle.reach.specs.Seeds.{Columns}
use Rattle.reach.specs.Bodies as B
use Rattle.reach.specs.Onward as O

T→true : (b : Bool) → T b → b ≡ true
T→true true t = refl
T→true false t = absurd t

-- ---- clauses

pub clauses_start : (heads first next : List ℕ) → B.Unindexed heads first next → B.ClausesFrom heads first next (length heads)
unfolding B.no_clauses B.no_more_clauses
clauses_start heads first next u = chain_starts 1024 2048 first next u.is_heads.few u.empty_clauses u.no_more

-- ---- atoms

pub atoms_start : (a : AtomArrays) (first next : List ℕ) → O.Unindexed a first next → O.AtomsFrom a first next (length a.kinds.now)
unfolding O.no_atoms O.no_more_atoms
atoms_start a first next u = chain_starts 512 1024 first next u.columns.few u.empty_atoms u.no_more

-- one atom more, the one below `low`: it is next(f) or init(f) and f is below 512, or not
module _ (a : AtomArrays) (first next : List ℕ) (low : ℕ) (w : Columns a) (i : O.AtomsFrom a first next low) (pos : 0 < low) where
  module _ (f : ℕ) (ef : f ≡ get_or a.firsts.now (low - 1) 0) where
    pub atoms_skip : (O.is_onward (get_or a.kinds.now (low - 1) 0) ≡ true → f < 512 → ⊥) → O.AtomsFrom a first next (low - 1)
    atoms_skip none = chain_skip i (low - 1) (omega arith) (λ g lt o. none (T→true (O.is_onward (get_or a.kinds.now (low - 1) 0)) o.kind) (omega (arith, o.fluent)))

    pub atoms_more : O.is_onward (get_or a.kinds.now (low - 1) 0) ≡ true → f < 512 → O.AtomsFrom a (set first f (low - 1)) (set next (low - 1) (get_or first f 0)) (low - 1)
    atoms_more on lt = chain_more i (low - 1) (omega arith) f lt (omega (arith, i.within, w.few)) (record { kind = subst T (sym on) tt; fluent = sym ef }) (λ g o. sym o.fluent ∙ sym ef)
