-- What the commands that change nothing are answered: check, claim, message, hidden and model.
use Rattle.std.specs.Prelude.{ℕ, List, [], ◌∷◌, ◌++◌, ltb, take, replicate, if◌then◌else◌, Result, Ok}
use Rattle.refusals.specs.declared.Refusal.{Refusal}
use Rattle.gdl.specs.Flags.{blank}
use Rattle.rules.specs.Verdict.{Verdict}
use Rattle.session.specs.declared.Session.{Session}
use Rattle.calls.specs.declared.Claimed.{Claimed}
use Rattle.calls.specs.declared.Sent.{Sent}
use Rattle.calls.specs.declared.Looked.{Looked}
use Rattle.calls.specs.Calls.{message}
use Rattle.calls.specs.Promises.{CheckPromise, HiddenPromise, ModelPromise}
use Rattle.commands.specs.Numbers.{word_at, number_at, room_at}
use Rattle.commands.specs.Placing.{placed}
use Rattle.commands.specs.Replies.{refusal_texts, more_texts, bytes_texts}
use Rattle.commands.specs.declared.fault.Fault.{Fault}
use Rattle.commands.specs.declared.position.Placed.{Placed}
use Rattle.interpreter.specs.Said.{Texts, or_error, ◌>>=◌, Told, ToldOrError}

-- "NUMBER PLACE"
abbrev pub CheckSaid : List ℕ → Texts → Type 0
CheckSaid table = Told Refusal (CheckPromise table) refusal_texts

-- "NUMBER PLACE CLAIM"
unfoldable pub claim_texts : Claimed → Texts
claim_texts c = refusal_texts c.refusal ++ more_texts c.claim

-- "NUMBER PLACE LENGTH HEX (.. HEX: the message, - on a refusal)"
unfoldable pub sent_texts : Sent × List ℕ → Texts
sent_texts a = refusal_texts a.0.refusal ++ more_texts a.0.length ++ bytes_texts (take a.0.length a.1)

-- "message SEAT or message SEAT ROOM"
unfoldable pub message_texts : List ℕ → Verdict → Session → Texts
message_texts line v σ = or_error (do
  seat ← number_at line 1
  lent ← room_at line 2
  Ok (sent_texts (message v σ seat (blank lent))))

-- "NUMBER PLACE ANSWER"
unfoldable pub looked_texts : Looked → Texts
looked_texts l = refusal_texts l.refusal ++ more_texts l.hidden

abbrev pub HiddenTold : Verdict → ℕ → ℕ → ℕ → Texts → Type 0
HiddenTold v asking moving m = Told Looked (HiddenPromise v asking moving m) looked_texts

-- "hidden SEAT SEAT MOVE"
unfoldable pub hidden_numbers : List ℕ → Result (ℕ × ℕ × ℕ) Fault
hidden_numbers line = do
  asking ← number_at line 1
  moving ← number_at line 2
  m ← number_at line 3
  Ok (asking, moving, m)

abbrev pub HiddenSaid : List ℕ → Verdict → Texts → Type 0
HiddenSaid line v = ToldOrError (hidden_numbers line) (λ q. HiddenTold v q.0 q.1 q.2)

-- the flags before the first byte that is none
abbrev pub flags_in : List ℕ → List ℕ
flags_in [] = []
flags_in (b ∷ bs) = if ltb 1 b then [] else b ∷ flags_in bs

-- "NUMBER PLACE HEX (.. the first A flags, - on a refusal)": before the call the lent room holds no flag
unfoldable pub model_texts : Refusal × List ℕ → Texts
model_texts p = refusal_texts p.0 ++ bytes_texts (flags_in p.1)

abbrev pub no_flags : ℕ → List ℕ
no_flags n = replicate n 255

abbrev pub ModelTold : Verdict → List ℕ → List ℕ → List ℕ → Texts → Type 0
ModelTold v pos ch lent = Told (Refusal × List ℕ) (ModelPromise v pos ch lent) model_texts

-- "model HEX HEX or model HEX HEX ROOM"
unfoldable pub model_words : List ℕ → Result (Placed × ℕ) Fault
model_words line = do
  p ← placed (word_at line 1) (word_at line 2)
  lent ← room_at line 3
  Ok (p, lent)

abbrev pub ModelSaid : List ℕ → Verdict → Texts → Type 0
ModelSaid line v = ToldOrError (model_words line) (λ q. ModelTold v q.0.position q.0.choices (no_flags q.1))
