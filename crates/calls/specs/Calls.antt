-- The answers of the calls: "Numbers of refusal". Each is its tests in their order, what a refusal hands back, and what is done.
use Rattle.std.specs.Prelude.{Bool, not, ◌&&◌, List, [], ◌∷◌, ◌++◌, ℕ, ◌-◌, eqb, leb, ltb, get_or, drop}
use Rattle.std.proofs.Math.ListN as N
use Rattle.refusals.specs.declared.Refusal.{Refusal}
use Rattle.refusals.specs.declared.Refusal.TheVariants.{Success, RoomTooShort, NoSuchSeat, NoSuchMove, AlreadyChosen, NotLegal, GameOver, NoChoice, BadShape, LastRound}
use Rattle.refusals.specs.Ruling.{Test, refuse◌when◌, refuse◌at_lowest_of◌if◌}
use Rattle.gdl.specs.Game.{Game}
use Rattle.gdl.specs.Flags.{bit}
use Rattle.gdl.specs.Computed.{hidden}
use Rattle.rules.specs.Verdict.{Verdict}
use Rattle.session.specs.Shape.{position_shaped, choices_shaped, shaped, blank_session}
use Rattle.session.specs.declared.Session.{Session}
use Rattle.calls.specs.declared.Claimed.{Claimed}
use Rattle.calls.specs.declared.Moved.{Moved}
use Rattle.calls.specs.declared.Sent.{Sent}
use Rattle.calls.specs.declared.Looked.{Looked}
use Rattle.calls.specs.Answer.{answer}
use Rattle.calls.specs.Position.{over, legal, opened, stored, played, moved}
use Rattle.calls.specs.Message.{message_bytes}

-- ---- the tests: "then the record or position (21), then: .."

-- "seat has already chosen"; "a seat has no choice"; "move not legal", of the move that a seat chose
abbrev pub chosen : Session → ℕ → Bool
chosen σ s = not (eqb (get_or σ.choices s 0) 0)

abbrev pub unchosen : Session → ℕ → Bool
unchosen σ s = eqb (get_or σ.choices s 0) 0

abbrev pub illegal : Game → Session → ℕ → Bool
illegal G σ s = not (legal G σ.position s (get_or σ.choices s 0 - 1))

-- "offer 19, 15, 16, 17, 18"; "move not legal | offer: 0"
unfoldable pub offer_tests : Session → ℕ → ℕ → Game → List Test
offer_tests σ s m G =
    refuse BadShape when not (shaped G σ) ∷
    refuse GameOver when over G σ.position ∷
    refuse NoSuchSeat when leb G.seats s ∷
    refuse NoSuchMove when leb G.moves m ∷
    refuse AlreadyChosen when chosen σ s ∷
    refuse NotLegal 0 when not (legal G σ.position s m) ∷ []

-- "play 19, 20, 18, 22"; "Play tests legality again, since a record may come from elsewhere."
unfoldable pub play_tests : Session → Game → List Test
play_tests σ G =
    refuse BadShape when not (shaped G σ) ∷
    refuse GameOver when over G σ.position ∷
    refuse NoChoice at_lowest_of G.seats if unchosen σ ∷
    refuse NotLegal at_lowest_of G.seats if illegal G σ ∷
    refuse LastRound when eqb σ.round 65535 ∷ []

-- "message 15, 14"; "Room of 1,024 bytes is asked for."
unfoldable pub message_tests : Session → ℕ → ℕ → Game → List Test
message_tests σ z room G =
    refuse BadShape when not (shaped G σ) ∷
    refuse NoSuchSeat when leb G.seats z ∷
    refuse RoomTooShort when ltb room 1024 ∷ []

-- "model 14"; "The position and choice given to the model call obey the same."
unfoldable pub model_tests : List ℕ → List ℕ → ℕ → Game → List Test
model_tests pos ch room G =
    refuse BadShape when not (position_shaped G pos && choices_shaped G ch) ∷
    refuse RoomTooShort when ltb room (N.length G.atoms) ∷ []

-- "hidden 15 (asking seat, then moving seat), 16"
unfoldable pub hidden_tests : ℕ → ℕ → ℕ → Game → List Test
hidden_tests asking moving m G =
    refuse NoSuchSeat when leb G.seats asking ∷
    refuse NoSuchSeat when leb G.seats moving ∷
    refuse NoSuchMove when leb G.moves m ∷ []

-- check, claim and open test the table alone
abbrev pub no_tests : Game → List Test
no_tests G = []

-- ---- the answers. "Success answers 0, place 0." "On a refusal no byte of lent room changes and the record is the one given; a refused open
-- hands back a blank record (round 0, nothing set or chosen). Length, claim and the hidden answer are then 0."

unfoldable pub check : Verdict → Refusal
check v = answer v no_tests (λ r. r) (λ G. Success)

-- "The claim is handed out on request."
unfoldable pub claim : Verdict → Claimed
claim v = answer v no_tests (λ r. record { refusal = r; claim = 0 }) (λ G. record { refusal = Success; claim = G.claim })

unfoldable pub open_game : Verdict → Moved
open_game v = answer v no_tests (λ r. record { refusal = r; session = blank_session }) (λ G. record { refusal = Success; session = opened G })

unfoldable pub offer : Verdict → Session → ℕ → ℕ → Moved
offer v σ s m = answer v (offer_tests σ s m) (λ r. record { refusal = r; session = σ }) (λ G. record { refusal = Success; session = stored σ s m })

unfoldable pub play : Verdict → Session → Moved
play v σ = answer v (play_tests σ) (λ r. record { refusal = r; session = σ }) (λ G. record { refusal = Success; session = played G σ })

-- the model call. It "writes one flag for each atom, 0 or 1, into the first A places of lent room; later places stay"
unfoldable pub truth : Verdict → List ℕ → List ℕ → List ℕ → Refusal × List ℕ
truth v pos ch room = answer v (model_tests pos ch (N.length room)) (λ r. (r, room)) (λ G. (Success, moved G pos ch ++ drop (N.length G.atoms) room))

-- "The call also answers the length. Bytes after the message stay."
unfoldable pub message : Verdict → Session → ℕ → List ℕ → Sent × List ℕ
message v σ z room = answer v (message_tests σ z (N.length room)) (λ r. (record { refusal = r; length = 0 }, room))
    (λ G. let b : List ℕ = message_bytes G σ z in (record { refusal = Success; length = N.length b }, b ++ drop (N.length b) room))

-- "A move of any seat is hidden from the first seat (the call answers 1, else 0) if .."
unfoldable pub hidden_from : Verdict → ℕ → ℕ → ℕ → Looked
hidden_from v asking moving m = answer v (hidden_tests asking moving m) (λ r. record { refusal = r; hidden = 0 })
    (λ G. record { refusal = Success; hidden = bit (hidden G asking moving m) })
