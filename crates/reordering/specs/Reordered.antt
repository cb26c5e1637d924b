-- Games and tables that differ only in the order or repetition of clauses: "Prove for two well-formed tables (none of 1 to 5, 13 or 24) that
-- differ only in the order or repetition of clauses: both are accepted or both get the same refusal number; models, messages, hidden moves and
-- passes are equal. The place of 6 to 8 may differ."
use Rattle.std.specs.Prelude.{◌≡◌, ℕ}
use mathlib.Core.List.{List, Memᴰ}
use Rattle.gdl.specs.Game.{Clause, Game}
use Rattle.table.specs.Parse.{ok}
use Rattle.table.specs.Table.{table}

-- every clause of C is one of D
abbrev pub Within : List Clause → List Clause → Type 0
Within C D = (c : Clause) → Memᴰ c C → Memᴰ c D

-- "differ only in the order or repetition": what is a clause of the one is a clause of the other
pub record SameClauses (C D : List Clause) : Type 0 where
  pub there : Within C D
  pub back : Within D C

-- a game with other clauses
abbrev pub with_clauses : List Clause → Game → Game
with_clauses D G =
    record { claim = G.claim; seats = G.seats; chance = G.chance; fluents = G.fluents; moves = G.moves; percepts = G.percepts; atoms = G.atoms; clauses = D }

-- two games "that differ only in the order or repetition of clauses"
pub record Reordered (G H : Game) : Type 0 where
  pub others : with_clauses H.clauses G ≡ H
  pub clauses : SameClauses G.clauses H.clauses

-- two "well-formed tables (none of 1 to 5, 13 ..)": both are read without a fault, and their games differ only so
pub record ReorderedTables (s t : List ℕ) : Type 0 where
  pub game : Game
  pub end : ℕ
  pub reads : table s 0 ≡ ok game end
  pub game' : Game
  pub end' : ℕ
  pub reads' : table t 0 ≡ ok game' end'
  pub games : Reordered game game'
