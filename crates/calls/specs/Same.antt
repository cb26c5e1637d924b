-- What it means that two verdicts are answered the same: by every call, whatever else the call is given.
use Rattle.std.specs.Prelude.{◌≡◌, List, ℕ}
use Rattle.gdl.specs.Game.{Game}
use Rattle.rules.specs.Verdict.{Verdict}
use Rattle.session.specs.declared.Session.{Session}
use Rattle.calls.specs.Calls.{check, open_game, offer, play, truth, message, hidden_from}

-- a game with another claim
abbrev pub claiming : ℕ → Game → Game
claiming c G = record {
  claim = c;
  seats = G.seats;
  chance = G.chance;
  fluents = G.fluents;
  moves = G.moves;
  percepts = G.percepts;
  atoms = G.atoms;
  clauses = G.clauses;
}

-- equal answers from every call but claim
pub record SameAnswers (v w : Verdict) : Type 0 where
  pub of_check : check v ≡ check w
  pub of_open : open_game v ≡ open_game w
  pub of_offer : (σ : Session) (s m : ℕ) → offer v σ s m ≡ offer w σ s m
  pub of_play : (σ : Session) → play v σ ≡ play w σ
  pub of_model : (pos ch room : List ℕ) → truth v pos ch room ≡ truth w pos ch room
  pub of_message : (σ : Session) (z : ℕ) (room : List ℕ) → message v σ z room ≡ message w σ z room
  pub of_hidden : (asking moving m : ℕ) → hidden_from v asking moving m ≡ hidden_from w asking moving m
