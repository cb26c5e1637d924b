-- What is wrong with a line, and the answer that says so: "error WHAT, and nothing changes".
use Rattle.std.specs.Prelude.{ℕ, List, [], ◌∷◌}
use Rattle.lines.specs.declared.decimal.DecimalFault.{DecimalFault}
use Rattle.lines.specs.declared.decimal.DecimalFault.TheVariants as D
use Rattle.lines.specs.declared.hex.HexFault.{HexFault}
use Rattle.lines.specs.declared.hex.HexFault.TheVariants as H
use Rattle.commands.specs.Texts.{text}
use Rattle.commands.specs.declared.fault.Fault.{Fault}
use Rattle.commands.specs.declared.fault.Fault.TheVariants.{Blanks, Command, Words, NotDecimal, TooLarge, NotHex, ModelBytes, RecordBytes, TableBytes, NoFile, LongLine}

-- what a word is that is no number
abbrev pub decimal_fault : DecimalFault → Fault
decimal_fault D.NotDecimal = NotDecimal
decimal_fault D.TooLarge = TooLarge

-- what a word is that is no hex, or has too many bytes
abbrev pub hex_fault : Fault → HexFault → Fault
hex_fault too_many H.NotHex = NotHex
hex_fault too_many H.TooMany = too_many

abbrev pub what : Fault → List ℕ
-- "an empty line, .. or extra .. blank"
what Blanks = text "empty line or extra blank"
-- "anything else"
what Command = text "unknown command"
-- "a missing or extra word"
what Words = text "missing or extra word"
what NotDecimal = text "not a decimal number"
-- "a number over 65,535"
what TooLarge = text "number over 65535"
-- "odd or wrong hex"
what NotHex = text "odd or wrong hex"
what ModelBytes = text "position or choices of another length"
what RecordBytes = text "a record has 2580 bytes"
-- "over 70,000 bytes or no such file: an error"
what TableBytes = text "table over 70000 bytes"
what NoFile = text "no such file"
-- "a line too long"
what LongLine = text "line too long"

abbrev pub error_texts : Fault → List (List ℕ)
error_texts f = text "error " ∷ what f ∷ []
