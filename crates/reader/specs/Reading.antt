-- "A reading place in the table goes on from record to record": what a reader reads, and where it then stands.
use Rattle.std.specs.Prelude.{ℕ, List, Result, Ok, Err}
use Rattle.std.specs.Borrow.{Bor}
use Rattle.numbers.specs.declared.Item.{Item}
use Rattle.numbers.specs.declared.Fault.{Fault}
use Rattle.numbers.specs.Number.{number_at}
use Rattle.reader.specs.declared.Reader.{Reader}
use Rattle.reader.specs.declared.Found.{Found}
use Rattle.reader.specs.declared.ClauseStart.{ClauseStart}

-- the place after a number that was read; where none was read, the place itself
abbrev pub after : Result Item Fault → ℕ → ℕ
after (Ok i) at = i.next
after (Err f) at = at

-- the number that starts at a place of a table, and where to go on
abbrev pub found_at : List ℕ → ℕ → Found
found_at s at = record { number = number_at s at; next = after (number_at s at) at }

-- a reader of a lent table, at a place
abbrev pub reader_at : Bor (List ℕ) → ℕ → Reader
reader_at table at = record { table = table; at = at }

-- what a reader reads, and the reader after that: it reads the same table, and has gone on
abbrev pub read_next : Reader → Result Item Fault × Reader
read_next ρ =
    let found : Found = found_at ρ.table.now ρ.at in
    (found.number, reader_at ρ.table found.next)

-- "A clause record is a head atom, a count of literals (0 to 64), and the literals": the first two as they stand there, and the place after them
abbrev pub clause_start : List ℕ → ℕ → ClauseStart
clause_start s at =
    let head : Found = found_at s at in
    let count : Found = found_at s head.next in
    record { head = head.number; count = count.number; literals = count.next }
