-- What the commands that move the record on are answered: open, offer, play and record.
use Rattle.std.specs.Prelude.{ℕ, ◌≡◌, cond, List, eqb, length, Result, Ok, Err}
use Rattle.gdl.specs.Flags.{blank}
use Rattle.rules.specs.Verdict.{Verdict}
use Rattle.session.specs.declared.Session.{Session}
use Rattle.session.specs.Bytes.{session_of}
use Rattle.calls.specs.declared.Moved.{Moved}
use Rattle.calls.specs.Calls.{open_game, offer, play}
use Rattle.lines.specs.Words.{words_of}
use Rattle.lines.specs.Hex.{hex_into}
use Rattle.lines.specs.declared.hex.HexFault.{HexFault}
use Rattle.commands.specs.Faults.{hex_fault, error_texts}
use Rattle.commands.specs.Numbers.{word_at, number_at}
use Rattle.commands.specs.Replies.{refusal_texts, ok_texts, record_texts}
use Rattle.commands.specs.declared.fault.Fault.{Fault}
use Rattle.commands.specs.declared.fault.Fault.TheVariants as F
use Rattle.interpreter.specs.Said.{Texts, said, ◌>>=◌}
use Rattle.interpreter.specs.declared.records.Turned.{Turned}

-- what is said, and the record that is now current
pub record Turn : Type 0 where
  pub texts : Texts
  pub session : Session

unfoldable pub turned : Turn → List ℕ → Turned × List ℕ
turned t room = let p : ℕ × List ℕ = said t.texts room in (record { session = t.session; length = p.0 }, p.1)

-- "error WHAT, and nothing changes"
abbrev pub wrong : Fault → Session → Turn
wrong f σ = record { texts = error_texts f; session = σ }

-- the record after a command and how long the answer is; or the fault whose error is meant, and the room stays
abbrev pub Turns : Turn → Session → List ℕ → Result Turned Fault → List ℕ → Type 0
Turns t σ room (Ok m) after = (m, after) ≡ turned t room
Turns t σ room (Err f) after = (t ≡ wrong f σ) × (after ≡ room)

abbrev pub or_wrong : Session → Result Turn Fault → Turn
or_wrong σ (Ok t) = t
or_wrong σ (Err f) = wrong f σ

-- "NUMBER PLACE; the record handed back is now current"
abbrev pub moved_on : Moved → Turn
moved_on m = record { texts = refusal_texts m.refusal; session = m.session }

-- "open"
abbrev pub open_turn : Verdict → Turn
open_turn v = moved_on (open_game v)

-- "offer SEAT MOVE"
unfoldable pub offer_turn : List ℕ → Verdict → Session → Turn
offer_turn line v σ = or_wrong σ (do
  seat ← number_at line 1
  m ← number_at line 2
  Ok (moved_on (offer v σ seat m)))

-- "play"
abbrev pub play_turn : Verdict → Session → Turn
play_turn v σ = moved_on (play v σ)

-- "ok 2580; any 2,580 bytes are taken"
abbrev pub record_set : Result ℕ HexFault × List ℕ → Session → Turn
record_set (Ok n, bytes) σ = cond (eqb n 2580) (record { texts = ok_texts n; session = session_of bytes }) (wrong F.RecordBytes σ)
record_set (Err e, bytes) σ = wrong (hex_fault F.RecordBytes e) σ

-- "record HEX"
unfoldable pub set_turn : List ℕ → Session → Turn
set_turn word σ = record_set (hex_into word (blank 2580)) σ

-- "record | HEX (2,580 bytes)"
unfoldable pub record_turn : List ℕ → Session → Turn
record_turn line σ = cond (eqb (length (words_of line)) 1) (record { texts = record_texts σ; session = σ }) (set_turn (word_at line 1) σ)
