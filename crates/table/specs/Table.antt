-- "The table, in order", as a reader from bytes to a game.
use Rattle.std.specs.Prelude.{ℕ, zero, suc, ◌+◌, ◌-◌, ◌*◌, ltb, List, [], ◌∷◌, length, get_or}
use Rattle.refusals.specs.declared.Refusal.TheVariants.{OutOfRange, NotAbove, BytesAfter, TableTooLong}
use Rattle.gdl.specs.Game.{Atom, Literal, Clause, Game}
use Rattle.gdl.specs.Layout.{literal_of}
use Rattle.table.specs.Parse.{Reader, ◌>>=◌, give, place, size, refuse◌if◌, number◌to◌, bounded}
use Rattle.table.specs.declared.header.Players.{Players}
use Rattle.table.specs.declared.header.Sizes.{Sizes}
use Rattle.table.specs.declared.header.Header.{Header}

-- "Version (1), claim (any value), seats R (1 to 8), chance seat (0 for none, else 1 to R, one more than the seat's number)"
unfoldable pub players : Reader Players
players = do
  version ← number 1 to 1
  claim ← number 0 to 65535
  seats ← number 1 to 8
  chance ← number 0 to seats
  give (record { claim = claim; seats = seats; chance = chance })

-- "fluents F (0 to 512), moves M (1 to 256), percepts P (0 to 256), atoms A (1 to 1,024)"
unfoldable pub sizes : Reader Sizes
sizes = do
  fluents ← number 0 to 512
  moves ← number 1 to 256
  percepts ← number 0 to 256
  atoms ← number 1 to 1024
  give (record { fluents = fluents; moves = moves; percepts = percepts; atoms = atoms })

unfoldable pub header : Reader Header
header = do
  p ← players
  z ← sizes
  give (record { players = p; sizes = z })

-- what a kind allows in a field: nothing, or a number below an end
pub data Bound : Type 0 where
  Absent : Bound
  Below : ℕ → Bound

-- the page's table of kinds: what the first field and the second of each kind are below
abbrev pub first_bounds : Header → List Bound
first_bounds h =
    let seat = Below h.players.seats in
    let fluent = Below h.sizes.fluents in
    Below 1024 ∷ seat ∷ fluent ∷ fluent ∷ seat ∷ seat ∷ fluent ∷ seat ∷ Absent ∷ seat ∷ []

abbrev pub second_bounds : Header → List Bound
second_bounds h =
    let move = Below h.sizes.moves in
    let percept = Below h.sizes.percepts in
    Below 1024 ∷ Absent ∷ Absent ∷ Absent ∷ move ∷ move ∷ Absent ∷ percept ∷ Absent ∷ Below 101 ∷ []

unfoldable pub first_bound : Header → ℕ → Bound
first_bound h kind = get_or (first_bounds h) kind Absent

unfoldable pub second_bound : Header → ℕ → Bound
second_bound h kind = get_or (second_bounds h) kind Absent

-- "a field that a kind lacks counts as 0"
unfoldable pub field : Bound → Reader ℕ
field Absent = give 0
field (Below n) = bounded 0 n

-- "An atom record is a kind and its fields"
unfoldable pub atom : Header → Reader Atom
atom h = do
  kind ← number 0 to 9
  first ← field (first_bound h kind)
  second ← field (second_bound h kind)
  give (record { kind = kind; first = first; second = second })

-- an atom's place in the order "by kind, then first field, then second": each field is below 65,536
unfoldable pub key : Atom → ℕ
key a = a.kind * 4294967296 + a.first * 65536 + a.second

-- so many atom records, which "ascend strictly", each at least at a given place in the order: "4 is tested when all fields of its record are
-- read without fault", at the record's start
unfoldable pub atoms_from : Header → ℕ → ℕ → Reader (List Atom)
atoms_from h zero least = give []
atoms_from h (suc n) least = do
  start ← place
  a ← atom h
  _ ← refuse (NotAbove start) if (ltb (key a) least)
  rest ← atoms_from h n (key a + 1)
  give (a ∷ rest)

-- so many literals over A atoms, "each twice the atom number, plus 1 where it is negated"
unfoldable pub literals : ℕ → ℕ → Reader (List Literal)
literals zero end = give []
literals (suc n) end = do
  x ← bounded 0 end
  xs ← literals n end
  give (literal_of x ∷ xs)

-- "A clause record is a head atom, a count of literals (0 to 64), and the literals": "a literal count that takes the total past 8,192" is out
-- of range; `room` is what is left of the 8,192
unfoldable pub clause : ℕ → ℕ → Reader Clause
clause A room = do
  head ← bounded 0 A
  start ← place
  count ← number 0 to 64
  _ ← refuse (OutOfRange start) if (ltb room count)
  body ← literals count (2 * A)
  give (record { head = head; body = body })

-- "All literals of a table together are at most 8,192."
unfoldable pub clauses_from : ℕ → ℕ → ℕ → Reader (List Clause)
clauses_from zero A room = give []
clauses_from (suc n) A room = do
  c ← clause A room
  cs ← clauses_from n A (room - length c.body)
  give (c ∷ cs)

-- "clauses C (0 to 2,048), C clause records, and nothing after"
unfoldable pub clauses : ℕ → Reader (List Clause)
clauses A = do
  C ← number 0 to 2048
  cs ← clauses_from C A 8192
  end ← place
  n ← size
  _ ← refuse (BytesAfter end) if (ltb end n)
  give cs

-- "A atom records, clauses C (0 to 2,048), C clause records, and nothing after"
unfoldable pub game : Header → Reader Game
game h = do
  atoms ← atoms_from h h.sizes.atoms 0
  cs ← clauses h.sizes.atoms
  give (record {
    claim = h.players.claim;
    seats = h.players.seats;
    chance = h.players.chance;
    fluents = h.sizes.fluents;
    moves = h.sizes.moves;
    percepts = h.sizes.percepts;
    atoms = atoms;
    clauses = cs;
  })

-- "A table has at most 65,535 bytes." "13 goes before all"
unfoldable pub table : Reader Game
table = do
  n ← size
  _ ← refuse TableTooLong if (ltb 65535 n)
  h ← header
  game h
