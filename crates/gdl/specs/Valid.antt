-- What the laws ask of a game, and the game of every accepted table has: its clauses speak of its atoms, and levels exist.
use mathlib.Core.List.{Memᴰ}
use Rattle.std.specs.Prelude.{◌<◌, length}
use Rattle.gdl.specs.Game.{Literal, atom_of, Clause, Game}
use Rattle.gdl.specs.Graph.{itself, NoNegativeCycle}

pub record Valid (G : Game) : Type 0 where
  pub heads : (c : Clause) → Memᴰ c G.clauses → c.head < length G.atoms
  pub bodies : (c : Clause) → Memᴰ c G.clauses → (l : Literal) → Memᴰ l c.body → atom_of l < length G.atoms
  -- "(Equally: no cycle has a negative edge.)"
  pub levels : NoNegativeCycle itself G.clauses
