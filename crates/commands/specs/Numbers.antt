-- The numbers of a command: "numbers are decimal".
use Rattle.std.specs.Prelude.{ℕ, List, [], leb, length, get_or, if◌then◌else◌, Result, Ok, Err}
use Rattle.lines.specs.Words.{words_of}
use Rattle.lines.specs.Decimal.{decimal_of}
use Rattle.lines.specs.declared.decimal.DecimalFault.{DecimalFault}
use Rattle.commands.specs.Faults.{decimal_fault}
use Rattle.commands.specs.declared.fault.Fault.{Fault}

abbrev pub word_at : List ℕ → ℕ → List ℕ
word_at line k = get_or (words_of line) k []

-- the number, or what is wrong with it
abbrev pub number_or_fault : Result ℕ DecimalFault → Result ℕ Fault
number_or_fault (Ok x) = Ok x
number_or_fault (Err d) = Err (decimal_fault d)

unfoldable pub number_at : List ℕ → ℕ → Result ℕ Fault
number_at line k = number_or_fault (decimal_of (word_at line k))

-- "ROOM: bytes lent, 0 to 65,535, default 1024"
unfoldable pub room_at : List ℕ → ℕ → Result ℕ Fault
room_at line k = if leb (length (words_of line)) k then Ok 1024 else number_at line k
