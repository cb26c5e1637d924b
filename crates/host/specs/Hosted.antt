-- What a host is answered through C: the answers of the calls as numbers, over records, positions and choices in their byte form.
use Rattle.std.specs.Prelude.{◌≡◌, ◌&&◌, cond, List, ℕ, eqb, length}
use Rattle.refusals.specs.declared.Refusal.{Refusal}
use Rattle.refusals.specs.Refusal.{number_of, place_of}
use Rattle.rules.specs.Verdict.{Verdict}
use Rattle.session.specs.declared.Session.{Session}
use Rattle.session.specs.Bytes.{session_bytes, session_of, from_pairs}
use Rattle.calls.specs.declared.Claimed.{Claimed}
use Rattle.calls.specs.declared.Moved.{Moved}
use Rattle.calls.specs.declared.Sent.{Sent}
use Rattle.calls.specs.declared.Looked.{Looked}
use Rattle.calls.specs.Answer.{is_success}
use Rattle.calls.specs.Calls.{claim, open_game, offer, play, message}
use Rattle.calls.specs.Promises.{CheckPromise, HiddenPromise, ModelPromise}
use Rattle.host.specs.declared.Answer.{Answer}

-- "Numbers of refusal", and beside them the call's own number, x
abbrev pub said : Refusal → ℕ → Answer
said r x = record { number = number_of r; place = place_of r; value = x }

-- to a record, a position or choices of another length: 255, no refusal's number; tested before the table, and nothing changes
abbrev pub wrong_length : Answer
wrong_length = record { number = 255; place = 0; value = 0 }

-- a call over the record that 2,580 bytes are; where there are more or fewer, the lent room stays
unfoldable pub over_record : List ℕ → List ℕ → (Session → Answer × List ℕ) → Answer × List ℕ
over_record bytes room call = cond (eqb (length bytes) 2580) (call (session_of bytes)) (wrong_length, room)

-- the record that a call answers, refused or not
unfoldable pub handed_out : Moved → Answer × List ℕ
handed_out m = (said m.refusal 0, session_bytes m.session)

-- "On a refusal no byte of lent room changes and the record is the one given"
unfoldable pub handed_back : Moved → List ℕ → Answer × List ℕ
handed_back m bytes = (said m.refusal 0, cond (is_success m.refusal) (session_bytes m.session) bytes)

-- ---- the calls whose promise is an equation

-- "The claim is handed out on request."
unfoldable pub claim_hosted : Verdict → Answer
claim_hosted v = let c : Claimed = claim v in said c.refusal c.claim

-- "a refused open hands back a blank record (round 0, nothing set or chosen)"; what the bytes were decides nothing
abbrev pub open_hosted : Verdict → List ℕ → Answer × List ℕ
open_hosted v bytes = over_record bytes bytes (λ σ. handed_out (open_game v))

abbrev pub offer_hosted : Verdict → ℕ → ℕ → List ℕ → Answer × List ℕ
offer_hosted v s m bytes = over_record bytes bytes (λ σ. handed_back (offer v σ s m) bytes)

abbrev pub play_hosted : Verdict → List ℕ → Answer × List ℕ
play_hosted v bytes = over_record bytes bytes (λ σ. handed_back (play v σ) bytes)

-- "The call also answers the length."
abbrev pub sent_said : Sent × List ℕ → Answer × List ℕ
sent_said a = (said a.0.refusal a.0.length, a.1)

abbrev pub message_hosted : Verdict → List ℕ → ℕ → List ℕ → Answer × List ℕ
message_hosted v bytes z room = over_record bytes room (λ σ. sent_said (message v σ z room))

-- ---- the calls whose promise is a relation: what is told is one that the call's promise allows

pub record Told (A B : Type 0) (Promise : A → Type 0) (tell : A → B) (b : B) : Type 0 where
  pub given : A
  pub promised : Promise given
  pub tells : b ≡ tell given

abbrev pub CheckHosted : List ℕ → Answer → Type 0
CheckHosted table = Told Refusal Answer (CheckPromise table) (λ r. said r 0)

abbrev pub HiddenHosted : Verdict → ℕ → ℕ → ℕ → Answer → Type 0
HiddenHosted v asking moving m = Told Looked Answer (HiddenPromise v asking moving m) (λ l. said l.refusal l.hidden)

-- a position is 512 bytes, and choices are 16: eight numbers of two bytes, the lower first
abbrev pub ModelHosted : Verdict → List ℕ → List ℕ → List ℕ → Answer × List ℕ → Type 0
ModelHosted v pos ch room = cond (eqb (length pos) 512 && eqb (length ch) 16)
    (Told (Refusal × List ℕ) (Answer × List ℕ) (ModelPromise v pos (from_pairs 8 ch) room) (λ p. (said p.0 0, p.1)))
    (λ a. a ≡ (wrong_length, room))
