-- What a line is answered, and what is current afterwards: the protocol's table.
use Rattle.std.specs.Prelude.{ℕ, ◌-◌, ◌≡◌, List, [], leb, ltb, length, take, if◌then◌else◌, Option, Some, None, Result, Ok, Err}
use Rattle.rules.specs.Judged.{judge}
use Rattle.session.specs.Shape.{blank_session}
use Rattle.calls.specs.Calls.{claim}
use Rattle.lines.specs.Words.{words_of, none_empty}
use Rattle.lines.specs.Hex.{hex_into}
use Rattle.feed.specs.File.{Loads}
use Rattle.feed.specs.declared.Found.{Found}
use Rattle.feed.specs.declared.Found.TheVariants.{Line, Long, Nothing, More}
use Rattle.feed.specs.declared.file.LoadFault.{LoadFault}
use Rattle.commands.specs.Commands.{command_of, fewest, most}
use Rattle.commands.specs.Faults.{error_texts}
use Rattle.commands.specs.Numbers.{word_at}
use Rattle.commands.specs.Replies.{help_texts}
use Rattle.commands.specs.declared.command.Command.{Command}
use Rattle.commands.specs.declared.command.Command.TheVariants as C
use Rattle.commands.specs.declared.fault.Fault.{Fault}
use Rattle.commands.specs.declared.fault.Fault.TheVariants as F
use Rattle.interpreter.specs.Said.{Texts, said}
use Rattle.interpreter.specs.Looks.{CheckSaid, claim_texts, message_texts, HiddenSaid, ModelSaid}
use Rattle.interpreter.specs.Turns.{Turn, open_turn, offer_turn, play_turn, record_turn}
use Rattle.interpreter.specs.Tables.{Take, hex_take, file_take}
use Rattle.interpreter.specs.declared.desk.Desk.{Desk}
use Rattle.interpreter.specs.declared.desk.Answered.{Answered}
use Rattle.interpreter.specs.declared.records.Turned.{Turned}

-- at first the table is empty and the record blank
abbrev pub new_desk : Desk
new_desk = record { table = 0; session = blank_session }

-- ---- what is wrong with a line before it is a command

-- "a missing or extra word"
abbrev pub counted : ℕ → Option Command → Result Command Fault
counted words None = Err F.Command
counted words (Some c) =
    if leb words (fewest c) then Err F.Words else
    if ltb (most c) (words - 1) then Err F.Words else Ok c

-- "an empty line, a missing or extra word or blank", told in the order: blanks, command, words
unfoldable pub command_in : List ℕ → Result Command Fault
command_in line = if none_empty (words_of line) then counted (length (words_of line)) (command_of (word_at line 0)) else Err F.Blanks

-- ---- what is current afterwards

abbrev pub with_length : Desk → ℕ → Answered
with_length desk n = record { desk = desk; length = n }

unfoldable pub taken : Desk → Take → List ℕ → Answered × List ℕ
taken desk t room = let p : ℕ × List ℕ = said t.texts room in (record { desk = record { table = t.table; session = desk.session }; length = p.0 }, p.1)

abbrev pub with_record : Desk → Turned → Answered
with_record desk t = record { desk = record { table = desk.table; session = t.session }; length = t.length }

-- nothing changes
pub record Kept (Meant : Texts → Type 0) (table : List ℕ) (desk : Desk) (t : Texts) (after : Desk) (held : List ℕ) : Type 0 where
  pub meant : Meant t
  pub desk_stays : after ≡ desk
  pub table_stays : held ≡ table

-- "the record handed back is now current"
pub record TurnedTo (turn : Turn) (table : List ℕ) (desk : Desk) (t : Texts) (after : Desk) (held : List ℕ) : Type 0 where
  pub texts : t ≡ turn.texts
  pub record_turns : after ≡ record { table = desk.table; session = turn.session }
  pub table_stays : held ≡ table

-- so much of the room is now the current table, and the room holds this
pub record TakenTo (taking : Take) (holds : List ℕ) (desk : Desk) (t : Texts) (after : Desk) (held : List ℕ) : Type 0 where
  pub texts : t ≡ taking.texts
  pub table_turns : after ≡ record { table = taking.table; session = desk.session }
  pub table_holds : held ≡ holds

-- the same of some file
pub record LoadedTo (table : List ℕ) (desk : Desk) (t : Texts) (after : Desk) (held : List ℕ) : Type 0 where
  pub given : Result ℕ LoadFault
  pub promised : Loads table (given, held)
  pub takes : TakenTo (file_take desk.table given) held desk t after held

-- ---- the protocol's table

abbrev pub Meant : List ℕ → Command → List ℕ → Desk → Texts → Desk → List ℕ → Type 0
-- "table HEX"
Meant line C.Table room desk =
    let h = hex_into (word_at line 1) room in
    TakenTo (hex_take desk.table h.0) h.1 desk
-- "load FILE"
Meant line C.Load room desk = LoadedTo room desk
Meant line C.Check room desk = Kept (CheckSaid (take desk.table room)) room desk
Meant line C.Claim room desk = Kept (λ t. t ≡ claim_texts (claim (judge (take desk.table room)))) room desk
Meant line C.Open room desk = TurnedTo (open_turn (judge (take desk.table room))) room desk
Meant line C.Offer room desk = TurnedTo (offer_turn line (judge (take desk.table room)) desk.session) room desk
Meant line C.Play room desk = TurnedTo (play_turn (judge (take desk.table room)) desk.session) room desk
Meant line C.Message room desk = Kept (λ t. t ≡ message_texts line (judge (take desk.table room)) desk.session) room desk
Meant line C.Hidden room desk = Kept (HiddenSaid line (judge (take desk.table room))) room desk
Meant line C.Model room desk = Kept (ModelSaid line (judge (take desk.table room))) room desk
Meant line C.Record room desk = TurnedTo (record_turn line desk.session) room desk
Meant line C.Help room desk = Kept (λ t. t ≡ help_texts) room desk

-- "error WHAT, and nothing changes"
abbrev pub Wrong : Fault → List ℕ → Desk → Texts → Desk → List ℕ → Type 0
Wrong f room desk = Kept (λ t. t ≡ error_texts f) room desk

abbrev pub CommandMeant : List ℕ → Result Command Fault → List ℕ → Desk → Texts → Desk → List ℕ → Type 0
CommandMeant line (Ok c) room desk = Meant line c room desk
CommandMeant line (Err f) room desk = Wrong f room desk

unfoldable pub LineMeant : List ℕ → List ℕ → Desk → Texts → Desk → List ℕ → Type 0
LineMeant line room desk = CommandMeant line (command_in line) room desk

-- "a line too long"; where no line was found nothing is said
abbrev pub FoundMeant : Found → List ℕ → List ℕ → Desk → Texts → Desk → List ℕ → Type 0
FoundMeant Line line room desk = LineMeant line room desk
FoundMeant Long line room desk = Wrong F.LongLine room desk
FoundMeant Nothing line room desk = Kept (λ t. t ≡ []) room desk
FoundMeant More line room desk = Kept (λ t. t ≡ []) room desk

-- an answer that is meant, at the front of the room
pub record Answers (Means : Texts → Desk → List ℕ → Type 0) (room : List ℕ) (r : Answered) (held after : List ℕ) : Type 0 where
  pub texts : Texts
  pub meant : Means texts r.desk held
  pub puts : (r.length, after) ≡ said texts room

-- the same; or the fault whose error is meant, and the room stays
abbrev pub AnswersOr : (Texts → Desk → List ℕ → Type 0) → Desk → List ℕ → Result Answered Fault → List ℕ → List ℕ → Type 0
AnswersOr Means desk room (Ok r) held after = Answers Means room r held after
AnswersOr Means desk room (Err f) held after = Means (error_texts f) desk held × (after ≡ room)
