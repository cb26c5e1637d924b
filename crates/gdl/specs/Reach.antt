-- What reaches a seat, and which moves are hidden from it: "What reaches a seat".
use Rattle.std.specs.Prelude.{Bool, ◌||◌, ℕ, ◌<◌, T, eqb, length}
use mathlib.Core.List.{List, Memᴰ}
use Rattle.gdl.specs.Game.{Atom, Literal, atom_of, Clause, Game, init_kind, true_kind, does_kind, legal_kind, next_kind, sees_kind, terminal_kind, goal_kind, is_kind, is_atom, atom_at}
use Rattle.gdl.specs.Sets.{Atoms, ◌⊆◌}

-- "every sees, legal and goal atom of the seat and the terminal atom"
abbrev pub is_seed : ℕ → Atom → Bool
is_seed z a = is_kind sees_kind z a || (is_kind legal_kind z a || (is_kind goal_kind z a || eqb a.kind terminal_kind))

-- a set that "holds each body atom of a clause whose head it holds"
pub record Shut (C : List Clause) (X : Atoms) : Type 0 where
  pub body : (c : Clause) → Memᴰ c C → T (X c.head) → (x : Literal) → Memᴰ x c.body → T (X (atom_of x))

pub record Reaches (G : Game) (z : ℕ) (X : Atoms) : Type 0 where
  pub seeds : (p : ℕ) → p < length G.atoms → T (is_seed z (atom_at G p)) → T (X p)
  pub shut : Shut G.clauses X
  -- "where it holds true(f), holds next(f) and init(f) if they are in the table"
  pub onward : (f p q : ℕ) → p < length G.atoms → q < length G.atoms → T (is_kind true_kind f (atom_at G p))
      → T (is_kind next_kind f (atom_at G q) || is_kind init_kind f (atom_at G q)) → T (X p) → T (X q)

-- "The reach of a seat is the least set of atoms that .."
pub record Reach (G : Game) (z : ℕ) (X : Atoms) : Type 0 where
  pub reaches : Reaches G z X
  pub least : (Y : Atoms) → Reaches G z Y → X ⊆ Y

-- "A move of any seat is hidden from the first seat .. if its does atom is not in this set, also if the table has no such atom."
pub record Hidden (G : Game) (z s m : ℕ) : Type 0 where
  pub outside : (X : Atoms) → Reach G z X → (p : ℕ) → p < length G.atoms → T (is_atom does_kind s m (atom_at G p)) → T (X p) → ⊥
