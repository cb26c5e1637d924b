-- The theorem at work: a table with its two clauses in the other order and one of them twice, accepted both times; and one that is refused both
-- times, at another place.
use mathlib.Core.Path.{◌≡◌, refl}
use mathlib.Core.List.Memᴰ
use mathlib.Core.List.{List, [], ◌∷◌, ◌++◌}
use Prim.Native.Nat.{ℕ}
use Rattle.numbers.specs.Number.{number_at, run_at, number_of_two, number_of_three}
use Rattle.refusals.specs.declared.Refusal.TheVariants.{RoleWithBody}
use Rattle.gdl.specs.Game.{Atom, Literal, pos, Clause, Game}
use Rattle.gdl.proofs.Tests.{each_cons}
use Rattle.table.specs.Parse.{ok, bounded}
use Rattle.table.specs.Table.{players, sizes, header, first_bound, second_bound, field, atom, key, atoms_from, literals, clause, clauses_from, clauses, game, table}
use Rattle.rules.specs.Verdict.{unfit, fit}
use Rattle.rules.specs.Judged.{judge}
use Rattle.reordering.specs.Reordered.{SameClauses, ReorderedTables}
use Rattle.reordering.specs.Same.{SameMeaning}
use Rattle.reordering.proofs.Order.{order_does_not_matter}

-- one seat, one move, a plain atom p and the seat's role
abbrev start : List ℕ
start = 0x01 ∷ 0x00 ∷ 0x01 ∷ 0x00 ∷ 0x00 ∷ 0x01 ∷ 0x00 ∷ 0x02 ∷ 0x00 ∷ 0x00 ∷ 0x00 ∷ 0x01 ∷ 0x00 ∷ []

abbrev p_if_p : List ℕ
p_if_p = 0x00 ∷ 0x01 ∷ 0x00 ∷ []

abbrev role : List ℕ
role = 0x01 ∷ 0x00 ∷ []

abbrev role_if_p : List ℕ
role_if_p = 0x01 ∷ 0x01 ∷ 0x00 ∷ []

-- a clause and p if p; the same in the other order, with p if p twice
abbrev once : List ℕ → List ℕ
once c = start ++ (0x02 ∷ c) ++ p_if_p

abbrev twice : List ℕ → List ℕ
twice c = start ++ (0x03 ∷ p_if_p) ++ c ++ p_if_p

abbrev atom_records : List Atom
atom_records = record { kind = 0; first = 0; second = 0 } ∷ record { kind = 1; first = 0; second = 0 } ∷ []

abbrev holding : List Clause → Game
holding C = record { claim = 0; seats = 1; chance = 0; fluents = 0; moves = 1; percepts = 0; atoms = atom_records; clauses = C }

-- the games of both: the head of the first clause is the role
abbrev once_game : List Literal → Game
once_game b = holding (record { head = 1; body = b } ∷ record { head = 0; body = pos 0 ∷ [] } ∷ [])

abbrev twice_game : List Literal → Game
twice_game b = holding (record { head = 0; body = pos 0 ∷ [] } ∷ record { head = 1; body = b } ∷ record { head = 0; body = pos 0 ∷ [] } ∷ [])

turned : (a b : Clause) → SameClauses (a ∷ b ∷ []) (b ∷ a ∷ b ∷ [])
turned a b = record {
  there = each_cons _ a (b ∷ []) (Memᴰ.tail (Memᴰ.head refl)) (each_cons _ b [] (Memᴰ.head refl) (λ c m. absurd (Memᴰ.not-nil m)));
  back = each_cons _ b (a ∷ b ∷ []) (Memᴰ.tail (Memᴰ.head refl)) (λ c m. m);
}

tables : (c : List ℕ) (b : List Literal) (n m : ℕ) → table (once c) 0 ≡ ok (once_game b) n → table (twice c) 0 ≡ ok (twice_game b) m → ReorderedTables (once c) (twice c)
tables c b n m e f = record {
  game = once_game b;
  end = n;
  reads = e;
  game' = twice_game b;
  end' = m;
  reads' = f;
  games = record { others = refl; clauses = turned _ _ };
}

-- what the reading and the verdict compute with
evaluating : Unit {0}
unfolding judge table game players sizes header first_bound second_bound field atom key atoms_from literals clause clauses_from clauses bounded number_at run_at number_of_two number_of_three
evaluating = tt

-- ---- accepted

pub accepted_tables : ReorderedTables (once role) (twice role)
unfolding evaluating
accepted_tables = tables role [] 19 22 refl refl

pub both_accepted : (judge (once role) ≡ fit (once_game [])) × (judge (twice role) ≡ fit (twice_game []))
unfolding evaluating
both_accepted = (refl, refl)

pub same_meaning : SameMeaning (once_game []) (twice_game [])
unfolding evaluating
same_meaning = order_does_not_matter (once role) (twice role) accepted_tables

-- ---- refused: "The place of 6 to 8 may differ."

pub refused_tables : ReorderedTables (once role_if_p) (twice role_if_p)
unfolding evaluating
refused_tables = tables role_if_p (pos 0 ∷ []) 20 23 refl refl

pub both_refused : (judge (once role_if_p) ≡ unfit (RoleWithBody 0)) × (judge (twice role_if_p) ≡ unfit (RoleWithBody 1))
unfolding evaluating
both_refused = (refl, refl)
