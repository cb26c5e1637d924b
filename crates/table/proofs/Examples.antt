-- Document 01's examples 1 to 6, and the sentences of the page that are easiest to misread, as theorems about the decoder's definition.
use Prim.Native.Nat.{ℕ, ◌<◌}
use mathlib.Core.Path.{◌≡◌, refl}
use mathlib.Core.List.{List, [], ◌∷◌, ◌++◌}
use lib.ListN.{length}
use borrow.Author.Tests.{lt-ltb}
use Rattle.numbers.specs.Number.{number_at, run_at, number_of_two, number_of_three}
use Rattle.refusals.specs.declared.Refusal.TheVariants.{InputEnds, NotANumber, OutOfRange, NotAbove, BytesAfter, TableTooLong}
use Rattle.gdl.specs.Game.{Game}
use Rattle.table.specs.Parse.{ok, fault, bounded}
use Rattle.table.specs.Table.{players, sizes, header, first_bound, second_bound, field, atom, key, atoms_from, literals, clause, clauses_from, clauses, game, table}

abbrev pub smallest : List ℕ
smallest = 0x01 ∷ 0x00 ∷ 0x01 ∷ 0x00 ∷ 0x00 ∷ 0x01 ∷ 0x00 ∷ 0x01 ∷ 0x01 ∷ 0x00 ∷ 0x01 ∷ 0x00 ∷ 0x00 ∷ []

-- one seat, one move, a role atom, and the clause that states it
abbrev pub one_seat : Game
one_seat = record {
  claim = 0;
  seats = 1;
  chance = 0;
  fluents = 0;
  moves = 1;
  percepts = 0;
  atoms = record { kind = 1; first = 0; second = 0 } ∷ [];
  clauses = record { head = 0; body = [] } ∷ [];
}

pub record Examples : Type 0 where
  pub one : table [] 0 ≡ fault (InputEnds 0)
  pub two : table (0x80 ∷ 0x00 ∷ []) 0 ≡ fault (NotANumber 0)
  pub three : table (0xFF ∷ 0xFF ∷ []) 0 ≡ fault (InputEnds 0)
  pub four : table (0x80 ∷ 0x80 ∷ 0x04 ∷ []) 0 ≡ fault (NotANumber 0)
  pub five : table (0x02 ∷ []) 0 ≡ fault (OutOfRange 0)
  pub six : table smallest 0 ≡ ok one_seat 13
  pub six_and_more : table (smallest ++ 0x00 ∷ []) 0 ≡ fault (BytesAfter 13)
  -- "A run that the input cuts off is fault 1."
  pub cut_off : table (0x80 ∷ 0x80 ∷ []) 0 ≡ fault (InputEnds 0)
  -- "A set top bit on a third byte is fault 2."
  pub third_byte : table (0x80 ∷ 0x80 ∷ 0x80 ∷ []) 0 ≡ fault (NotANumber 0)
  -- "input ends inside or before a number": at its start
  pub before : table (0x01 ∷ []) 0 ≡ fault (InputEnds 1)
  -- "a number faulty as a number is not tested for range": version 2 in a longer form
  pub not_tested : table (0x82 ∷ 0x00 ∷ []) 0 ≡ fault (NotANumber 0)
  -- the terminal atom twice, at the second record's start
  pub twice : table (0x01 ∷ 0x00 ∷ 0x01 ∷ 0x00 ∷ 0x00 ∷ 0x01 ∷ 0x00 ∷ 0x02 ∷ 0x08 ∷ 0x08 ∷ []) 0 ≡ fault (NotAbove 9)
  -- a role record after a terminal one, whose seat is missing: 4 is tested only when all fields are read
  pub fields_first : table (0x01 ∷ 0x00 ∷ 0x01 ∷ 0x00 ∷ 0x00 ∷ 0x01 ∷ 0x00 ∷ 0x02 ∷ 0x08 ∷ 0x01 ∷ []) 0 ≡ fault (InputEnds 10)
  -- "13 goes before all"
  pub over_long : (s : List ℕ) → 65535 < length s → table s 0 ≡ fault TableTooLong

pub examples : Examples
unfolding table game header players sizes atoms_from atom key field first_bound second_bound clauses clauses_from clause literals bounded number_at run_at number_of_two number_of_three
examples = record {
  one = refl;
  two = refl;
  three = refl;
  four = refl;
  five = refl;
  six = refl;
  six_and_more = refl;
  cut_off = refl;
  third_byte = refl;
  before = refl;
  not_tested = refl;
  twice = refl;
  fields_first = refl;
  over_long = λ s h. rw (lt-ltb 65535 (length s));
}
