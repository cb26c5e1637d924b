-- Refused calls hand back what they were given: `refused_keep`.
use mathlib.Core.Path.{◌≡◌, refl}
use mathlib.Core.Logic.{◌≢◌}
use mathlib.Core.List.{List}
use Prim.Native.Nat.{ℕ}
use Rattle.refusals.specs.declared.Refusal.{Refusal}
use Rattle.refusals.specs.declared.Refusal.TheVariants.{Success}
use Rattle.refusals.specs.Ruling.{Test, Ruling, passed, refused, first_of}
use Rattle.gdl.specs.Game.{Game}
use Rattle.rules.specs.Verdict.{Verdict, unfit, fit}
use Rattle.session.specs.Shape.{blank_session}
use Rattle.session.specs.declared.Session.{Session}
use Rattle.calls.specs.declared.Claimed.{Claimed}
use Rattle.calls.specs.declared.Moved.{Moved}
use Rattle.calls.specs.declared.Sent.{Sent}
use Rattle.calls.specs.declared.Looked.{Looked}
use Rattle.calls.specs.Answer.{settle, answer}
use Rattle.calls.specs.Calls.{claim, open_game, offer, play, truth, message, hidden_from}

-- "On a refusal no byte of lent room changes and the record is the one given; a refused open hands back a blank record (round 0, nothing set or
-- chosen). Length, claim and the hidden answer are then 0."
pub record Kept (v : Verdict) : Type 0 where
  pub of_claim : (claim v).refusal ≢ Success → (claim v).claim ≡ 0
  pub of_open : (open_game v).refusal ≢ Success → (open_game v).session ≡ blank_session
  pub of_offer : (σ : Session) (s m : ℕ) → (offer v σ s m).refusal ≢ Success → (offer v σ s m).session ≡ σ
  pub of_play : (σ : Session) → (play v σ).refusal ≢ Success → (play v σ).session ≡ σ
  pub of_model : (pos ch room : List ℕ) → (truth v pos ch room).0 ≢ Success → (truth v pos ch room).1 ≡ room
  pub of_message : (σ : Session) (z : ℕ) (room : List ℕ) → (message v σ z room).0.refusal ≢ Success → (message v σ z room).1 ≡ room
  pub of_length : (σ : Session) (z : ℕ) (room : List ℕ) → (message v σ z room).0.refusal ≢ Success → (message v σ z room).0.length ≡ 0
  pub of_hidden : (asking moving m : ℕ) → (hidden_from v asking moving m).refusal ≢ Success → (hidden_from v asking moving m).hidden ≡ 0

-- one law for all: `given` is what every refusal has in its `part`
hands_back : {W X : Type 0} (refusal_of : W → Refusal) (part : W → X) (given : X) (v : Verdict) (tests : Game → List Test) (refusal : Refusal → W) (work : Game → W)
    → ((r : Refusal) → part (refusal r) ≡ given) → ((G : Game) → refusal_of (work G) ≡ Success) → refusal_of (answer v tests refusal work) ≢ Success → part (answer v tests refusal work) ≡ given
hands_back refusal_of part given (unfit r) tests refusal work f done ne = f r
hands_back refusal_of part given (fit G) tests refusal work f done ne = go (first_of (tests G)) ne
  where
    go : (a : Ruling) → refusal_of (settle a refusal (work G)) ≢ Success → part (settle a refusal (work G)) ≡ given
    go passed ne = absurd (ne (done G))
    go (refused r) ne = f r

pub refused_keep : (v : Verdict) → Kept v
unfolding claim open_game offer play truth message hidden_from
refused_keep v = record {
  of_claim = hands_back (λ (a : Claimed). a.refusal) (λ (a : Claimed). a.claim) 0 v _ _ _ (λ r. refl) (λ G. refl);
  of_open = hands_back (λ (a : Moved). a.refusal) (λ (a : Moved). a.session) blank_session v _ _ _ (λ r. refl) (λ G. refl);
  of_offer = λ σ s m. hands_back (λ (a : Moved). a.refusal) (λ (a : Moved). a.session) σ v _ _ _ (λ r. refl) (λ G. refl);
  of_play = λ σ. hands_back (λ (a : Moved). a.refusal) (λ (a : Moved). a.session) σ v _ _ _ (λ r. refl) (λ G. refl);
  of_model = λ pos ch room. hands_back (λ (a : Refusal × List ℕ). a.0) (λ (a : Refusal × List ℕ). a.1) room v _ _ _ (λ r. refl) (λ G. refl);
  of_message = λ σ z room. hands_back (λ (a : Sent × List ℕ). a.0.refusal) (λ (a : Sent × List ℕ). a.1) room v _ _ _ (λ r. refl) (λ G. refl);
  of_length = λ σ z room. hands_back (λ (a : Sent × List ℕ). a.0.refusal) (λ (a : Sent × List ℕ). a.0.length) 0 v _ _ _ (λ r. refl) (λ G. refl);
  of_hidden = λ z s m. hands_back (λ (a : Looked). a.refusal) (λ (a : Looked). a.hidden) 0 v _ _ _ (λ r. refl) (λ G. refl);
}
