-- The limits of the format: what holds of every game that was read, whether the rules accept it or not ("The table, in order").
use mathlib.Core.List.{Memᴰ}
use Rattle.std.specs.Prelude.{ℕ, ◌≤◌, ◌<◌, length, get_or}
use Rattle.gdl.specs.Game.{Literal, atom_of, Clause, Game, atom_at, kind_of}
use Rattle.gdl.specs.Layout.{literals_of}
use Rattle.table.specs.Table.{Bound, Absent, Below, first_bounds, second_bounds, key}
use Rattle.table.specs.Says.{header_of}

-- what a field is below: "a field that a kind lacks counts as 0"
abbrev pub end_of : Bound → ℕ
end_of Absent = 1
end_of (Below n) = n

-- what the fields of an atom of kind k are below
abbrev pub first_end : Game → ℕ → ℕ
first_end G k = end_of (get_or (first_bounds (header_of G)) k Absent)

abbrev pub second_end : Game → ℕ → ℕ
second_end G k = end_of (get_or (second_bounds (header_of G)) k Absent)

pub record Limits (G : Game) : Type 0 where
  -- "claim (any value), seats R (1 to 8), chance seat (0 for none, else 1 to R, ..)"
  pub claim : G.claim ≤ 65535
  pub some_seat : 1 ≤ G.seats
  pub seats : G.seats ≤ 8
  pub chance : G.chance ≤ G.seats
  -- "fluents F (0 to 512), moves M (1 to 256), percepts P (0 to 256), atoms A (1 to 1,024)"
  pub fluents : G.fluents ≤ 512
  pub some_move : 1 ≤ G.moves
  pub moves : G.moves ≤ 256
  pub percepts : G.percepts ≤ 256
  pub some_atom : 1 ≤ length G.atoms
  pub atoms : length G.atoms ≤ 1024
  -- the table of kinds and fields
  pub kinds : (p : ℕ) → p < length G.atoms → kind_of G p ≤ 9
  pub firsts : (p : ℕ) → p < length G.atoms → (atom_at G p).first < first_end G (kind_of G p)
  pub seconds : (p : ℕ) → p < length G.atoms → (atom_at G p).second < second_end G (kind_of G p)
  -- "Records ascend strictly by kind, then first field, then second": so no two atoms are one record
  pub ascending : (p q : ℕ) → p < q → q < length G.atoms → key (atom_at G p) < key (atom_at G q)
  -- "clauses C (0 to 2,048)"; "a head atom, a count of literals (0 to 64), and the literals"
  pub clauses : length G.clauses ≤ 2048
  pub heads : (c : Clause) → Memᴰ c G.clauses → c.head < length G.atoms
  pub bodies : (c : Clause) → Memᴰ c G.clauses → (l : Literal) → Memᴰ l c.body → atom_of l < length G.atoms
  pub short : (c : Clause) → Memᴰ c G.clauses → length c.body ≤ 64
  -- "All literals of a table together are at most 8,192."
  pub literals : length (literals_of G.clauses) ≤ 8192
