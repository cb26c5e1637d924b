-- Which command a line is: the protocol's table of commands, by the first word of a line and the number of its words.
use Rattle.std.specs.Prelude.{ℕ, List, [], ◌∷◌, if◌then◌else◌, Option, Some, None}
use Rattle.commands.specs.Texts.{text, same}
use Rattle.commands.specs.declared.command.Command.{Command}
use Rattle.commands.specs.declared.command.Command.TheVariants.{Table, Load, Check, Claim, Open, Offer, Play, Message, Hidden, Model, Record, Help}

-- the first of some names that a word is; "anything else" is no command
unfoldable pub named : List (List ℕ × Command) → List ℕ → Option Command
named [] w = None
named (n ∷ ns) w = if same w n.0 then Some n.1 else named ns w

abbrev pub names : List (List ℕ × Command)
names =
    (text "table", Table) ∷
    (text "load", Load) ∷
    (text "check", Check) ∷
    (text "claim", Claim) ∷
    (text "open", Open) ∷
    (text "offer", Offer) ∷
    (text "play", Play) ∷
    (text "message", Message) ∷
    (text "hidden", Hidden) ∷
    (text "model", Model) ∷
    (text "record", Record) ∷
    (text "help", Help) ∷ []

abbrev pub command_of : List ℕ → Option Command
command_of w = named names w

-- the fewest words behind a command's name
abbrev pub fewest : Command → ℕ
-- "table HEX or load FILE"
fewest Table = 1
fewest Load = 1
fewest Check = 0
fewest Claim = 0
fewest Open = 0
-- "offer SEAT MOVE"
fewest Offer = 2
fewest Play = 0
-- "message SEAT or message SEAT ROOM"
fewest Message = 1
-- "hidden SEAT SEAT MOVE"
fewest Hidden = 3
-- "model HEX HEX or model HEX HEX ROOM"
fewest Model = 2
-- "record", "record HEX"
fewest Record = 0
fewest Help = 0

-- the most
abbrev pub most : Command → ℕ
most Table = 1
most Load = 1
most Check = 0
most Claim = 0
most Open = 0
most Offer = 2
most Play = 0
most Message = 2
most Hidden = 3
most Model = 3
most Record = 1
most Help = 0
