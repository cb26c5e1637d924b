-- A table that cannot be read is refused with one of the table's own numbers, 1 to 13.
use mathlib.Core.Bool.{Bool, true, false, ◌&&◌}
use mathlib.Core.List.{List}
use Prim.Native.Nat.{ℕ, zero, suc, ◌+◌, ◌-◌, ◌*◌}
use lib.Dec.{T, ltb, leb}
use lib.ListN.{length}
use Rattle.numbers.specs.Number.{number_at}
use Rattle.std.specs.Prelude.{Result, Ok, Err}
use Rattle.numbers.specs.declared.Item.{Item}
use Rattle.numbers.specs.declared.Fault.{Fault}
use Rattle.numbers.specs.declared.Fault.TheVariants.{Cut, Long, Large}
use Rattle.numbers.proofs.Reading.{by_test}
use Rattle.refusals.specs.Refusal.{number_of}
use Rattle.refusals.specs.declared.Refusal.{Refusal}
use Rattle.refusals.specs.declared.Refusal.TheVariants.{OutOfRange, NotAbove, BytesAfter, TableTooLong}
use Rattle.table.specs.Parse.{Parse, ok, fault, after, refuse◌if◌, in_range, bounded}
use Rattle.table.specs.Table.{Bound, Absent, Below, players, sizes, header, first_bound, second_bound, field, atom, key, atoms_from, literals, clause, clauses_from, clauses, game, table}
use Rattle.table.specs.declared.header.Header.{Header}

-- a refusal of a table
abbrev pub OfTable : Refusal → Type 0
OfTable r = T (leb 1 (number_of r) && leb (number_of r) 13)

abbrev pub Faults : {A : Type 0} → Parse A → Type 0
Faults (ok a n) = Unit {0}
Faults (fault f) = OfTable f

faults_after : {A B : Type 0} (p : Parse A) (k : A → ℕ → Parse B) → Faults p → ((a : A) (n : ℕ) → Faults (k a n)) → Faults (after p k)
faults_after (ok a n) k h f = f a n
faults_after (fault g) k h f = h

in_range_lem : (lo end at : ℕ) (x : Result Item Fault) → Faults (in_range lo end at x)
in_range_lem lo end at (Ok i) =
    by_test Faults (ltb i.value lo) (λ _. tt) λ l.
    by_test Faults (leb end i.value) (λ _. tt) λ u. tt
in_range_lem lo end at (Err Cut) = tt
in_range_lem lo end at (Err Long) = tt
in_range_lem lo end at (Err Large) = tt

bounded_faults : (lo end : ℕ) (s : List ℕ) (at : ℕ) → Faults (bounded lo end s at)
unfolding bounded
bounded_faults lo end s at = in_range_lem lo end at (number_at s at)

test_faults : (f : Refusal) (b : Bool) (s : List ℕ) (at : ℕ) → OfTable f → Faults ((refuse f if b) s at)
test_faults f true s at h = h
test_faults f false s at h = tt

players_faults : (s : List ℕ) (at : ℕ) → Faults (players s at)
unfolding players
players_faults s at =
    faults_after (bounded 1 2 s at) _ (bounded_faults 1 2 s at) λ version n1.
    faults_after (bounded 0 65536 s n1) _ (bounded_faults 0 65536 s n1) λ claim n2.
    faults_after (bounded 1 9 s n2) _ (bounded_faults 1 9 s n2) λ seats n3.
    faults_after (bounded 0 (seats + 1) s n3) _ (bounded_faults 0 (seats + 1) s n3) λ chance n4. tt

sizes_faults : (s : List ℕ) (at : ℕ) → Faults (sizes s at)
unfolding sizes
sizes_faults s at =
    faults_after (bounded 0 513 s at) _ (bounded_faults 0 513 s at) λ fluents n1.
    faults_after (bounded 1 257 s n1) _ (bounded_faults 1 257 s n1) λ moves n2.
    faults_after (bounded 0 257 s n2) _ (bounded_faults 0 257 s n2) λ percepts n3.
    faults_after (bounded 1 1025 s n3) _ (bounded_faults 1 1025 s n3) λ atoms n4. tt

header_faults : (s : List ℕ) (at : ℕ) → Faults (header s at)
unfolding header
header_faults s at = faults_after (players s at) _ (players_faults s at) λ p n. faults_after (sizes s n) _ (sizes_faults s n) λ z m. tt

field_faults : (b : Bound) (s : List ℕ) (at : ℕ) → Faults (field b s at)
unfolding field
field_faults Absent s at = tt
field_faults (Below n) s at = bounded_faults 0 n s at

atom_faults : (h : Header) (s : List ℕ) (at : ℕ) → Faults (atom h s at)
unfolding atom
atom_faults h s at =
    faults_after (bounded 0 10 s at) _ (bounded_faults 0 10 s at) λ kind n1.
    faults_after (field (first_bound h kind) s n1) _ (field_faults (first_bound h kind) s n1) λ first n2.
    faults_after (field (second_bound h kind) s n2) _ (field_faults (second_bound h kind) s n2) λ second n3. tt

atoms_faults : (h : Header) (n least : ℕ) (s : List ℕ) (at : ℕ) → Faults (atoms_from h n least s at)
unfolding atoms_from
atoms_faults h zero least s at = tt
atoms_faults h (suc n) least s at =
    faults_after (atom h s at) _ (atom_faults h s at) λ a n1.
    faults_after ((refuse (NotAbove at) if (ltb (key a) least)) s n1) _ (test_faults (NotAbove at) (ltb (key a) least) s n1 tt) λ _ n2.
    faults_after (atoms_from h n (key a + 1) s n2) _ (atoms_faults h n (key a + 1) s n2) λ rest n3. tt

literals_faults : (n end : ℕ) (s : List ℕ) (at : ℕ) → Faults (literals n end s at)
unfolding literals
literals_faults zero end s at = tt
literals_faults (suc n) end s at =
    faults_after (bounded 0 end s at) _ (bounded_faults 0 end s at) λ x n1.
    faults_after (literals n end s n1) _ (literals_faults n end s n1) λ xs n2. tt

clause_faults : (A room : ℕ) (s : List ℕ) (at : ℕ) → Faults (clause A room s at)
unfolding clause
clause_faults A room s at =
    faults_after (bounded 0 A s at) _ (bounded_faults 0 A s at) λ head n1.
    faults_after (bounded 0 65 s n1) _ (bounded_faults 0 65 s n1) λ count n2.
    faults_after ((refuse (OutOfRange n1) if (ltb room count)) s n2) _ (test_faults (OutOfRange n1) (ltb room count) s n2 tt) λ _ n3.
    faults_after (literals count (2 * A) s n3) _ (literals_faults count (2 * A) s n3) λ body n4. tt

clauses_from_faults : (n A room : ℕ) (s : List ℕ) (at : ℕ) → Faults (clauses_from n A room s at)
unfolding clauses_from
clauses_from_faults zero A room s at = tt
clauses_from_faults (suc n) A room s at =
    faults_after (clause A room s at) _ (clause_faults A room s at) λ c n1.
    faults_after (clauses_from n A (room - length c.body) s n1) _ (clauses_from_faults n A (room - length c.body) s n1) λ cs n2. tt

clauses_faults : (A : ℕ) (s : List ℕ) (at : ℕ) → Faults (clauses A s at)
unfolding clauses
clauses_faults A s at =
    faults_after (bounded 0 2049 s at) _ (bounded_faults 0 2049 s at) λ C n1.
    faults_after (clauses_from C A 8192 s n1) _ (clauses_from_faults C A 8192 s n1) λ cs n2.
    faults_after ((refuse (BytesAfter n2) if (ltb n2 (length s))) s n2) _ (test_faults (BytesAfter n2) (ltb n2 (length s)) s n2 tt) λ _ n3. tt

game_faults : (h : Header) (s : List ℕ) (at : ℕ) → Faults (game h s at)
unfolding game
game_faults h s at =
    faults_after (atoms_from h h.sizes.atoms 0 s at) _ (atoms_faults h h.sizes.atoms 0 s at) λ atoms n1.
    faults_after (clauses h.sizes.atoms s n1) _ (clauses_faults h.sizes.atoms s n1) λ cs n2. tt

pub table_faults : (s : List ℕ) → Faults (table s 0)
unfolding table
table_faults s =
    faults_after ((refuse TableTooLong if (ltb 65535 (length s))) s 0) _ (test_faults TableTooLong (ltb 65535 (length s)) s 0 tt) λ _ n.
    faults_after (header s n) _ (header_faults s n) λ h n1. game_faults h s n1
