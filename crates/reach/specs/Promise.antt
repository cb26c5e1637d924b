-- What the reach's caller brings, and what it gets.
use Rattle.std.specs.Prelude.{◌≡◌, List, ℕ, ◌≤◌, length, get_or}
use Rattle.gdl.specs.Game.{Game}
use Rattle.gdl.specs.Reach.{Reach}
use Rattle.gdl.specs.Flags.{on}
use Rattle.gdl.specs.Layout.{kinds_of, firsts_of, heads_of, starts_from, literals_of, Small}
use Rattle.gdl.specs.declared.arrays.AtomArrays.{AtomArrays}
use Rattle.gdl.specs.declared.arrays.ClauseArrays.{ClauseArrays}

-- the arrays are those of the game: of the atoms the kinds and the first fields, and of the clauses the heads and the literals
pub record Laid (G : Game) (a : AtomArrays) (c : ClauseArrays) : Type 0 where
  pub is_kinds : a.kinds.now ≡ kinds_of G.atoms
  pub is_firsts : a.firsts.now ≡ firsts_of G.atoms
  pub is_heads : c.heads.now ≡ heads_of G.clauses
  pub is_starts : c.starts.now ≡ starts_from 0 G.clauses
  pub is_literals : c.literals.now ≡ literals_of G.clauses

-- the arrays hold a game of a table's size
pub record Ready (a : AtomArrays) (c : ClauseArrays) : Type 0 where
  pub game : Game
  pub laid : Laid game a c
  pub small : Small game

-- the flags that are 1 are the reach of the seat: 1,024 flags, 0 or 1, none set after the last atom
pub record Reached (G : Game) (seat : ℕ) (flags : List ℕ) : Type 0 where
  pub reach : Reach G seat (on flags)
  pub long : length flags ≡ 1024
  pub bits : (p : ℕ) → get_or flags p 0 ≤ 1
  pub after : (p : ℕ) → length G.atoms ≤ p → get_or flags p 0 ≡ 0
