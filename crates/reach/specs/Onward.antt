-- The next and init atoms by their fluents.
use Rattle.std.specs.Prelude.{◌≡◌, Bool, ◌||◌, List, ℕ, ◌<◌, T, eqb, length, get_or, replicate}
use Rattle.gdl.specs.Game.{true_kind, next_kind, init_kind}
use Rattle.gdl.specs.declared.arrays.AtomArrays.{AtomArrays}
use Rattle.edges.specs.Uses.{IndexedFrom}
use Rattle.reach.specs.Seeds.{Columns}

abbrev pub is_onward : ℕ → Bool
is_onward kind = eqb kind next_kind || eqb kind init_kind

-- atom q is next(f) or init(f)
pub record Onward (a : AtomArrays) (f q : ℕ) : Type 0 where
  pub kind : T (is_onward (get_or a.kinds.now q 0))
  pub fluent : get_or a.firsts.now q 0 ≡ f

-- p is true(f), and q is next(f) or init(f)
pub record Follows (a : AtomArrays) (p q : ℕ) : Type 0 where
  pub is_true : get_or a.kinds.now p 0 ≡ true_kind
  pub within : q < length a.kinds.now
  pub onward : Onward a (get_or a.firsts.now p 0) q

-- ---- the index

-- no atom known yet
unfoldable pub no_atoms : List ℕ
no_atoms = replicate 512 1024

unfoldable pub no_more_atoms : List ℕ
no_more_atoms = replicate 1024 1024

-- the atoms, and an index that knows none yet
pub record Unindexed (a : AtomArrays) (first next : List ℕ) : Type 0 where
  pub columns : Columns a
  pub empty_atoms : first ≡ no_atoms
  pub no_more : next ≡ no_more_atoms

-- the index of the atoms from `low` on, and of all, by the fluents below 512
abbrev pub AtomsFrom : AtomArrays → List ℕ → List ℕ → ℕ → Type 0
AtomsFrom a first next low = IndexedFrom (Onward a) (length a.kinds.now) 1024 512 1024 first next low

abbrev pub Indexed : AtomArrays → List ℕ → List ℕ → Type 0
Indexed a first next = AtomsFrom a first next 0

-- ---- what is asked

-- "fluents F (0 to 512)"
pub record Fluents (a : AtomArrays) : Type 0 where
  pub columns : Columns a
  pub low : (p : ℕ) → p < length a.kinds.now → get_or a.kinds.now p 0 ≡ true_kind → get_or a.firsts.now p 0 < 512
