-- What a table holds: atoms by kind and fields, clauses by head and literals ("The table, in order").
use Rattle.std.specs.Prelude.{Bool, ◌&&◌, List, [], ℕ, eqb, get_or}

-- "An atom record is a kind and its fields": "a field that a kind lacks counts as 0".
pub record Atom : Type 0 where
  pub kind : ℕ
  pub first : ℕ
  pub second : ℕ

-- "the literals, each twice the atom number, plus 1 where it is negated"
pub data Literal : Type 0 where
  pos : ℕ → Literal
  neg : ℕ → Literal

abbrev pub atom_of : Literal → ℕ
atom_of (pos q) = q
atom_of (neg q) = q

-- "A clause record is a head atom, a count of literals .., and the literals"
pub record Clause : Type 0 where
  pub head : ℕ
  pub body : List Literal

-- "Version (1), claim (any value), seats R (1 to 8), chance seat (0 for none, else 1 to R, ..), fluents F (0 to 512), moves M (1 to 256),
-- percepts P (0 to 256), atoms A (1 to 1,024), A atom records, clauses C (0 to 2,048), C clause records"
pub record Game : Type 0 where
  pub claim : ℕ
  pub seats : ℕ
  pub chance : ℕ
  pub fluents : ℕ
  pub moves : ℕ
  pub percepts : ℕ
  pub atoms : List Atom
  pub clauses : List Clause

-- the kinds, by the page's numbers
abbrev pub plain_kind : ℕ
plain_kind = 0

abbrev pub role_kind : ℕ
role_kind = 1

abbrev pub init_kind : ℕ
init_kind = 2

abbrev pub true_kind : ℕ
true_kind = 3

abbrev pub does_kind : ℕ
does_kind = 4

abbrev pub legal_kind : ℕ
legal_kind = 5

abbrev pub next_kind : ℕ
next_kind = 6

abbrev pub sees_kind : ℕ
sees_kind = 7

abbrev pub terminal_kind : ℕ
terminal_kind = 8

abbrev pub goal_kind : ℕ
goal_kind = 9

-- "Seats, fluents, moves, percepts, atoms and clauses are numbered from 0."
abbrev pub atom_at : Game → ℕ → Atom
atom_at G p = get_or G.atoms p (record { kind = 0; first = 0; second = 0 })

abbrev pub clause_at : Game → ℕ → Clause
clause_at G i = get_or G.clauses i (record { head = 0; body = [] })

abbrev pub kind_of : Game → ℕ → ℕ
kind_of G p = (atom_at G p).kind

-- is this the atom of kind k with first field x; of kind k with the fields x and y
abbrev pub is_kind : ℕ → ℕ → Atom → Bool
is_kind k x a = eqb a.kind k && eqb a.first x

abbrev pub is_atom : ℕ → ℕ → ℕ → Atom → Bool
is_atom k x y a = eqb a.kind k && (eqb a.first x && eqb a.second y)
