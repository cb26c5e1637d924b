-- Which fields the atoms of a kind have that are in a set: one mark for each.
use Rattle.std.specs.Prelude.{◌≡◌, Bool, ◌&&◌, List, ℕ, ◌+◌, ◌*◌, ◌≤◌, eqb, length}
use Rattle.gdl.specs.Game.{Atom}
use Rattle.gdl.specs.declared.arrays.AtomArrays.{AtomArrays}
use Rattle.gdl.specs.Sets.{Atoms}
use Rattle.gdl.specs.Lists.{flags}
use Rattle.gdl.specs.Computed.{any_of}

-- the place of an atom's fields in rows of a width
abbrev pub fields_at : ℕ → Atom → ℕ
fields_at width a = a.first * width + a.second

abbrev pub is_at : ℕ → ℕ → ℕ → Atom → Bool
is_at kind width i a = eqb a.kind kind && eqb (fields_at width a) i

-- of 2,048 places those of the atoms of the kind that are in X
unfoldable pub marks_of : ℕ → ℕ → List Atom → Atoms → List ℕ
marks_of kind width l X = flags 2048 (λ i. any_of (is_at kind width i) l X)

-- the atoms' arrays are of one length
pub record Columns (kinds firsts seconds : List ℕ) : Type 0 where
  pub few : length kinds ≤ 1024
  pub firsts_long : length firsts ≡ length kinds
  pub seconds_long : length seconds ≡ length kinds

pub record Marking (kinds firsts seconds : List ℕ) (width : ℕ) : Type 0 where
  pub columns : Columns kinds firsts seconds
  pub narrow : width ≤ 256

-- the same of arrays that are passed together
abbrev pub Markable : AtomArrays → ℕ → Type 0
Markable a width = Marking a.kinds.now a.firsts.now a.seconds.now width
