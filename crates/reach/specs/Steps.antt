-- What brings an atom into a reach, on the arrays of a game; and the closure by it.
use Rattle.std.specs.Prelude.{◌≡◌, List, ℕ, ◌/◌, ◌<◌, ◌≤◌, length, get_or}
use Rattle.gdl.specs.declared.arrays.AtomArrays.{AtomArrays}
use Rattle.gdl.specs.declared.arrays.ClauseArrays.{ClauseArrays}
use Rattle.edges.specs.Marks.{Turn, Waiting}
use Rattle.edges.specs.declared.worklist.Worklist.{Worklist}
use Rattle.reach.specs.Bodies as B
use Rattle.reach.specs.Onward as O

-- p brings in h: the set "holds each body atom of a clause whose head it holds; and, where it holds true(f), holds next(f) and init(f)"
pub data Brings (a : AtomArrays) (c : ClauseArrays) (p h : ℕ) : Type 0 where
  by_body : B.InBodies c p h → Brings a c p h
  by_fluent : O.Follows a p h → Brings a c p h

-- the arrays of a game: heads and literals name its atoms
pub record Readable (a : AtomArrays) (c : ClauseArrays) : Type 0 where
  pub lows : O.Fluents a
  pub clauses : B.Clauses c
  pub atoms : (k : ℕ) → k < length c.literals.now → get_or c.literals.now k 0 / 2 < length a.kinds.now

-- the same, indexed
pub record Indexed (a : AtomArrays) (c : ClauseArrays) (first next fluents later : List ℕ) : Type 0 where
  pub readable : Readable a c
  pub clauses : B.Indexed c.heads.now first next
  pub atoms : O.Indexed a fluents later

-- an atom waits at `at`
pub record Visit (a : AtomArrays) (c : ClauseArrays) (w : Worklist) (at : ℕ) : Type 0 where
  pub turn : Turn (Brings a c) w at
  pub atom : get_or w.queue at 0 < length a.kinds.now

-- marks on some atoms, which wait
pub record Following (a : AtomArrays) (w : Worklist) : Type 0 where
  pub waiting : Waiting w
  pub after : (p : ℕ) → length a.kinds.now ≤ p → get_or w.marks p 0 ≡ 0
