-- Demand 3: the histories of a session, what a seat cannot tell apart, and the secrecy that is promised.
use Rattle.std.specs.Prelude.{◌≡◌, ◌⊎◌, ◌≢◌, Bool, cond, List, [], ◌∷◌, map, ℕ, suc, ◌≤◌, eqb, get_or, take}
use Rattle.std.proofs.Math.ListN as N
use Rattle.refusals.specs.declared.Refusal.{Refusal}
use Rattle.gdl.specs.Game.{Game}
use Rattle.gdl.specs.Reach.{Hidden}
use Rattle.rules.specs.Verdict.{Verdict}
use Rattle.session.specs.declared.Session.{Session}
use Rattle.calls.specs.declared.Moved.{Moved}
use Rattle.calls.specs.declared.Sent.{Sent}
use Rattle.calls.specs.Answer.{is_success}
use Rattle.calls.specs.Calls.{open_game, offer, play, message}

-- ---- a program's calls on one table

pub record Program : Type 0 where
  pub opens : Moved
  pub offers : Session → ℕ → ℕ → Moved
  pub plays : Session → Moved
  pub sends : Session → ℕ → List ℕ → Sent × List ℕ

-- "each as its own promise says"
pub record Keeps (v : Verdict) (P : Program) : Type 0 where
  pub opens : P.opens ≡ open_game v
  pub offers : (σ : Session) (s m : ℕ) → P.offers σ s m ≡ offer v σ s m
  pub plays : (σ : Session) → P.plays σ ≡ play v σ
  pub sends : (σ : Session) (z : ℕ) (room : List ℕ) → P.sends σ z room ≡ message v σ z room

abbrev pub promised : Verdict → Program
promised v = record { opens = open_game v; offers = offer v; plays = play v; sends = message v }

-- ---- histories

-- "A call of a history is an offer (any seat number, any move number) or a play."
pub data Call : Type 0 where
  offering : ℕ → ℕ → Call
  playing : Call

-- it grows at its end
infixl 10 ◌▷◌
pub data History : Type 0 where
  opening : History
  ◌▷◌ : History → Call → History

-- an offer's move and its answer
pub record Tried : Type 0 where
  pub move : ℕ
  pub refusal : Refusal

abbrev pub move_of : Tried → ℕ
move_of e = e.move

module _ (P : Program) where
  abbrev pub after : Session → Call → Session
  after σ (offering s m) = (P.offers σ s m).session
  after σ playing = (P.plays σ).session

  -- "the record after open and then the calls of h, .. refused ones leaving it as it was"
  unfoldable pub run : History → Session
  run opening = P.opens.session
  run (h ▷ c) = after (run h) c

  -- a play on the record after h is accepted
  unfoldable pub goes_on : History → Bool
  goes_on h = is_success (P.plays (run h)).refusal

  -- "the list of joint moves that h's accepted plays played": the last first
  unfoldable pub rounds : History → List (List ℕ)
  rounds opening = []
  rounds (h ▷ offering s m) = rounds h
  rounds (h ▷ playing) = let r : List (List ℕ) = rounds h in cond (goes_on h) ((run h).choices ∷ r) r

  -- "The current part of h is what follows its last accepted play": the offers of seat z in it with their answers, the last first
  unfoldable pub current : ℕ → History → List Tried
  current z opening = []
  current z (h ▷ offering s m) = let r : List Tried = current z h in cond (eqb s z) (record { move = m; refusal = (P.offers (run h) s m).refusal } ∷ r) r
  current z (h ▷ playing) = let r : List Tried = current z h in cond (goes_on h) [] r

-- ---- what a seat cannot tell apart

-- the move that a joint choice has for seat s is hidden from seat z
pub record HiddenMove (G : Game) (z s : ℕ) (ch : List ℕ) : Type 0 where
  pub hidden : (m : ℕ) → get_or ch s 0 ≡ suc m → Hidden G z s m

-- "z's move is the same, and every other seat's move is the same in both or hidden from z in both (by reach, as defined)"
pub record AlikeRound (G : Game) (z : ℕ) (ch ch' : List ℕ) : Type 0 where
  pub own : get_or ch z 0 ≡ get_or ch' z 0
  pub others : (s : ℕ) → s ≢ z → (get_or ch s 0 ≡ get_or ch' s 0) ⊎ (HiddenMove G z s ch × HiddenMove G z s ch')

-- "if they played equally many rounds and, round by round, .."
pub data AlikeRounds (G : Game) (z : ℕ) : List (List ℕ) → List (List ℕ) → Type 0 where
  none_yet : AlikeRounds G z [] []
  one_more : {ch ch' : List ℕ} {cs cs' : List (List ℕ)} → AlikeRound G z ch ch' → AlikeRounds G z cs cs' → AlikeRounds G z (ch ∷ cs) (ch' ∷ cs')

-- "histories h and h' are alike for z"
abbrev pub Alike : Program → Game → ℕ → History → History → Type 0
Alike P G z h h' = AlikeRounds G z (rounds P h) (rounds P h')

-- "the same number, place, length and bytes"
pub record SameMessage (a b : Sent × List ℕ) : Type 0 where
  pub refusal : a.0.refusal ≡ b.0.refusal
  pub length : a.0.length ≡ b.0.length
  pub bytes : take a.0.length a.1 ≡ take b.0.length b.1

-- demand 3, of a program on a table, its game, and a seat
pub record Secret (P : Program) (G : Game) (z : ℕ) : Type 0 where
  -- "the message call for z on `run T h` and on `run T h'`, with room of 1,024 bytes or more, gives the same number, place, length and bytes"
  pub messages : (h h' : History) → Alike P G z h h' → (room room' : List ℕ) → 1024 ≤ N.length room → 1024 ≤ N.length room'
      → SameMessage (P.sends (run P h) z room) (P.sends (run P h') z room')
  -- "if the offers by z in the current parts of h and h' are the same moves in the same order, the answers to them are the same list of numbers
  -- and places"
  pub offers : (h h' : History) → Alike P G z h h' → map move_of (current P z h) ≡ map move_of (current P z h') → current P z h ≡ current P z h'
