-- What the commands that set the table are answered: table and load.
use Rattle.std.specs.Prelude.{ℕ, ◌≡◌, List, Result, Ok, Err}
use Rattle.lines.specs.declared.hex.HexFault.{HexFault}
use Rattle.feed.specs.File.{Loads}
use Rattle.feed.specs.declared.file.LoadFault.{LoadFault}
use Rattle.feed.specs.declared.file.LoadFault.TheVariants as L
use Rattle.commands.specs.Faults.{hex_fault, error_texts}
use Rattle.commands.specs.Replies.{ok_texts}
use Rattle.commands.specs.declared.fault.Fault.{Fault}
use Rattle.commands.specs.declared.fault.Fault.TheVariants as F
use Rattle.interpreter.specs.Said.{Texts}

-- what is said, and how much of the table's room is now the current table
pub record Take : Type 0 where
  pub texts : Texts
  pub table : ℕ

-- "ok LENGTH"
abbrev pub accepted : ℕ → Take
accepted n = record { texts = ok_texts n; table = n }

-- "error WHAT, and nothing changes"
abbrev pub refused : ℕ → Fault → Take
refused before f = record { texts = error_texts f; table = before }

abbrev pub take_of : ℕ → Result ℕ Fault → Take
take_of before (Ok n) = accepted n
take_of before (Err f) = refused before f

-- how long a table of hex is
abbrev pub hex_size : Result ℕ HexFault → Result ℕ Fault
hex_size (Ok n) = Ok n
hex_size (Err e) = Err (hex_fault F.TableBytes e)

-- "table HEX"
abbrev pub hex_take : ℕ → Result ℕ HexFault → Take
hex_take before h = take_of before (hex_size h)

-- how long the table of a file is
abbrev pub file_size : Result ℕ LoadFault → Result ℕ Fault
file_size (Ok n) = Ok n
file_size (Err L.NoFile) = Err F.NoFile
file_size (Err L.TooMany) = Err F.TableBytes

-- "load FILE"
abbrev pub file_take : ℕ → Result ℕ LoadFault → Take
file_take before l = take_of before (file_size l)

-- the table is that of some file
pub record TableLoads (table after : List ℕ) (x : Result ℕ Fault) : Type 0 where
  pub given : Result ℕ LoadFault
  pub promised : Loads table (given, after)
  pub tells : x ≡ file_size given
