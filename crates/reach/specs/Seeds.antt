-- The flags of the atoms that a seat's reach starts from.
use Rattle.std.specs.Prelude.{◌≡◌, ℕ, ◌<◌, ◌≤◌, length, get_or}
use Rattle.gdl.specs.Reach.{is_seed}
use Rattle.gdl.specs.Flags.{bit}
use Rattle.gdl.specs.declared.arrays.AtomArrays.{AtomArrays}
use Rattle.edges.specs.Queue.{no_marks}
use Rattle.edges.specs.Marks.{Waiting}
use Rattle.edges.specs.declared.worklist.Worklist.{Worklist}

-- by kind and first field, which decide
abbrev pub seed_flag : ℕ → ℕ → ℕ → ℕ
seed_flag seat kind first = bit (is_seed seat (record { kind = kind; first = first; second = 0 }))

-- the atoms' arrays are of one length
pub record Columns (a : AtomArrays) : Type 0 where
  pub few : length a.kinds.now ≤ 1024
  pub same : length a.firsts.now ≡ length a.kinds.now

-- nothing is marked yet
pub record Unsown (a : AtomArrays) (w : Worklist) : Type 0 where
  pub columns : Columns a
  pub unmarked : w.marks ≡ no_marks

-- of the atoms below p those that the reach starts from are marked and queued, and nothing else
pub record Sown (a : AtomArrays) (seat p : ℕ) (w : Worklist) : Type 0 where
  pub below : (i : ℕ) → i < p → get_or w.marks i 0 ≡ seed_flag seat (get_or a.kinds.now i 0) (get_or a.firsts.now i 0)
  pub after : (i : ℕ) → p ≤ i → get_or w.marks i 0 ≡ 0
  pub waiting : Waiting w
