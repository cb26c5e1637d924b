-- "The claim is handed out on request. Of an accepted table no other answer depends on it."
use mathlib.Core.Path.{refl}
use Prim.Native.Nat.{ℕ}
use Rattle.gdl.specs.Game.{Game}
use Rattle.gdl.specs.Computed.{facts, model, reach_of, hidden}
use Rattle.rules.specs.Verdict.{fit}
use Rattle.session.specs.Shape.{position_shaped, choices_shaped, percepts_shaped, shaped}
use Rattle.calls.specs.Position.{still, moved, over, legal, goal, opened, played}
use Rattle.calls.specs.Message.{message_numbers, message_bytes}
use Rattle.calls.specs.Same.{claiming, SameAnswers}
use Rattle.calls.specs.Calls.{check, open_game, offer, play, truth, message, hidden_from, offer_tests, play_tests, message_tests, model_tests, hidden_tests}

pub claim_decides_nothing : (G : Game) (c : ℕ) → SameAnswers (fit G) (fit (claiming c G))
unfolding check open_game offer play truth message hidden_from offer_tests play_tests message_tests model_tests hidden_tests position_shaped choices_shaped percepts_shaped shaped still moved over legal goal opened played message_numbers message_bytes facts model reach_of hidden
claim_decides_nothing G c = record {
  of_check = refl;
  of_open = refl;
  of_offer = λ σ s m. refl;
  of_play = λ σ. refl;
  of_model = λ pos ch room. refl;
  of_message = λ σ z room. refl;
  of_hidden = λ asking moving m. refl;
}
