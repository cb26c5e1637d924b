-- The position and the choices of a model command: "512 position bytes, 16 choice bytes, little endian".
use Rattle.std.specs.Prelude.{ℕ, List, eqb, if◌then◌else◌, Option, Some, None, Result, Ok, Err}
use Rattle.gdl.specs.Flags.{blank}
use Rattle.session.specs.Bytes.{from_pairs}
use Rattle.lines.specs.Hex.{hex_into}
use Rattle.lines.specs.declared.hex.HexFault.{HexFault}
use Rattle.lines.specs.declared.hex.HexFault.TheVariants.{NotHex, TooMany}
use Rattle.commands.specs.declared.fault.Fault.{Fault}
use Rattle.commands.specs.declared.fault.Fault.TheVariants.{ModelBytes}
use Rattle.commands.specs.declared.fault.Fault.TheVariants as F
use Rattle.commands.specs.declared.position.Placed.{Placed}

-- the first of two faults
abbrev pub first_of : Option Fault → Option Fault → Option Fault
first_of None b = b
first_of (Some f) b = Some f

-- "odd or wrong hex"
abbrev pub wrong_hex : Result ℕ HexFault → Option Fault
wrong_hex (Ok n) = None
wrong_hex (Err NotHex) = Some F.NotHex
wrong_hex (Err TooMany) = None

abbrev pub wrong_length : ℕ → Result ℕ HexFault → Option Fault
wrong_length many (Ok n) = if eqb n many then None else Some ModelBytes
wrong_length many (Err NotHex) = None
wrong_length many (Err TooMany) = Some ModelBytes

-- wrong hex in either word is told before a wrong length
unfoldable pub wrong_in : Result ℕ HexFault → Result ℕ HexFault → Option Fault
wrong_in p c = first_of (first_of (wrong_hex p) (wrong_hex c)) (first_of (wrong_length 512 p) (wrong_length 16 c))

-- what is right where nothing is wrong
abbrev pub unless : {A : Type 0} → Option Fault → A → Result A Fault
unless None a = Ok a
unless (Some f) a = Err f

unfoldable pub placed : List ℕ → List ℕ → Result Placed Fault
placed position choices =
    let p = hex_into position (blank 512) in
    let c = hex_into choices (blank 16) in
    unless (wrong_in p.0 c.0) (record { position = p.1; choices = from_pairs 8 c.1 })
