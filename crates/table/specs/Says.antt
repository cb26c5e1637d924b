-- What the code's answers say: each as the reading that it is, or as arrays that hold what was read.
use Rattle.std.specs.Prelude.{ℕ, ◌≡◌, List, map, length, Option, Some, None, Result, Ok, Err}
use Rattle.std.proofs.lemmas.List.Edits.{sets}
use Rattle.refusals.specs.declared.Refusal.{Refusal}
use Rattle.gdl.specs.Flags.{blank}
use Rattle.gdl.specs.Game.{Atom, Literal, Clause, Game}
use Rattle.gdl.specs.Layout.{code_of, kinds_of, firsts_of, seconds_of, heads_of, starts_from, literals_of, owners_of}
use Rattle.table.specs.Parse.{Parse, ok, fault}
use Rattle.table.specs.Table.{Bound, Absent, Below, first_bounds, second_bounds, key}
use Rattle.table.specs.declared.header.Header.{Header}
use Rattle.table.specs.declared.atoms.AtomRecord.{AtomRecord}
use Rattle.table.specs.declared.clauses.Outline.{Outline}
use Rattle.table.specs.declared.tables.AtomRoom.{AtomRoom}
use Rattle.table.specs.declared.tables.ClauseRoom.{ClauseRoom}
use Rattle.table.specs.declared.tables.Arrays.{Arrays}
use Rattle.table.specs.declared.tables.Read.{Read}

-- a value and the place after it
abbrev pub says : {A : Type 0} → Result A Refusal → ℕ → Parse A
says (Ok x) n = ok x n
says (Err f) n = fault f

-- a bound as the code has it: the end that a field's numbers are below, or none
abbrev pub end_of : Bound → Option ℕ
end_of Absent = None
end_of (Below n) = Some n

abbrev pub ends : List Bound → List (Option ℕ)
ends l = map end_of l

pub record EndsOf (h : Header) (firsts seconds : List (Option ℕ)) : Type 0 where
  pub firsts_are : firsts ≡ ends (first_bounds h)
  pub seconds_are : seconds ≡ ends (second_bounds h)

abbrev pub atom_of : AtomRecord → Atom
atom_of a = record { kind = a.kind; first = a.first; second = a.second }

abbrev pub atom_says : Result AtomRecord Refusal → ℕ → Parse Atom
atom_says (Ok a) n = ok (atom_of a) n
atom_says (Err f) n = fault f

abbrev pub key_of : AtomRecord → ℕ
key_of a = key (atom_of a)

-- ---- arrays: of what was read well every place is said, and the place after it, of a fault only the answer

pub record AtomsLaid (xs : List Atom) (old new : AtomRoom) : Type 0 where
  pub kinds_are : new.kinds ≡ sets old.kinds 0 (kinds_of xs)
  pub firsts_are : new.firsts ≡ sets old.firsts 0 (firsts_of xs)
  pub seconds_are : new.seconds ≡ sets old.seconds 0 (seconds_of xs)

abbrev pub WroteAtoms : Parse (List Atom) → AtomRoom → Result (Unit {0}) Refusal → ℕ → AtomRoom → Type 0
WroteAtoms (ok xs n) old r at new = (r ≡ Ok tt) × (at ≡ n) × AtomsLaid xs old new
WroteAtoms (fault f) old r at new = r ≡ Err f

abbrev pub WroteLiterals : Parse (List Literal) → List ℕ → ℕ → Result (Unit {0}) Refusal → ℕ → List ℕ → Type 0
WroteLiterals (ok xs n) old used r at new = (r ≡ Ok tt) × (at ≡ n) × (new ≡ sets old used (map code_of xs))
WroteLiterals (fault f) old used r at new = r ≡ Err f

-- a clause, less its literals
abbrev pub outline_of : Clause → Outline
outline_of c = record { head = record { 0 = c.head }; count = length c.body }

abbrev pub WroteClause : Parse Clause → List ℕ → ℕ → Result Outline Refusal → ℕ → List ℕ → Type 0
WroteClause (ok c n) old used r at new = (r ≡ Ok (outline_of c)) × (at ≡ n) × (new ≡ sets old used (map code_of c.body))
WroteClause (fault f) old used r at new = r ≡ Err f

-- the arrays that hold clauses, written over others
pub record ClausesLaid (cs : List Clause) (old new : ClauseRoom) : Type 0 where
  pub heads_are : new.heads ≡ sets old.heads 0 (heads_of cs)
  pub starts_are : new.starts ≡ sets old.starts 0 (starts_from 0 cs)
  pub literals_are : new.literals ≡ sets old.literals 0 (literals_of cs)
  pub owners_are : new.owners ≡ sets old.owners 0 (owners_of cs)

abbrev pub WroteClauses : Parse (List Clause) → ClauseRoom → Result (Unit {0}) Refusal → ℕ → ClauseRoom → Type 0
WroteClauses (ok cs n) old r at new = (r ≡ Ok tt) × (at ≡ n) × ClausesLaid cs old new
WroteClauses (fault f) old r at new = r ≡ Err f

abbrev pub WroteRest : Parse (List Clause) → ClauseRoom → Result ℕ Refusal → ClauseRoom → Type 0
WroteRest (ok cs n) old r new = (r ≡ Ok (length cs)) × ClausesLaid cs old new
WroteRest (fault f) old r new = r ≡ Err f

-- the header and the count of clauses that a game was read with
abbrev pub header_of : Game → Header
header_of G = record {
  players = record { claim = G.claim; seats = G.seats; chance = G.chance };
  sizes = record { fluents = G.fluents; moves = G.moves; percepts = G.percepts; atoms = length G.atoms };
}

-- a game in its arrays
pub record GameLaid (G : Game) (h : Header) (many : ℕ) (old new : Arrays) : Type 0 where
  pub header_is : h ≡ header_of G
  pub count_is : many ≡ length G.clauses
  pub atoms : AtomsLaid G.atoms old.atoms new.atoms
  pub clauses : ClausesLaid G.clauses old.clauses new.clauses

abbrev pub WroteGame : Parse Game → Header → Result ℕ Refusal → Arrays → Arrays → Type 0
WroteGame (ok G n) h r old new = (many : ℕ) × (r ≡ Ok many) × GameLaid G h many old new
WroteGame (fault f) h r old new = r ≡ Err f

-- ---- the whole table

-- arrays to read into
abbrev pub blank_arrays : Arrays
blank_arrays = record {
  atoms = record { kinds = blank 1024; firsts = blank 1024; seconds = blank 1024 };
  clauses = record { heads = blank 2048; starts = blank 2049; literals = blank 8192; owners = blank 8192 };
}

-- a game in lent arrays; the answer is its header and the count of its clauses
pub record TableLaid (G : Game) (r : Result Read Refusal) (old new : Arrays) : Type 0 where
  pub answer_is : r ≡ Ok (record { header = header_of G; clauses = length G.clauses })
  pub atoms : AtomsLaid G.atoms old.atoms new.atoms
  pub clauses : ClausesLaid G.clauses old.clauses new.clauses

abbrev pub WroteTable : Parse Game → Result Read Refusal → Arrays → Arrays → Type 0
WroteTable (ok G n) r old new = TableLaid G r old new
WroteTable (fault f) r old new = r ≡ Err f
