-- What is known where a call passes its tests: each test's outcome.
use mathlib.Core.Path.{◌≡◌, refl}
use mathlib.Core.Bool.{true, false, not, ◌&&◌}
use mathlib.Core.List.{List}
use Prim.Native.Nat.{ℕ}
use lib.Dec.{eqb, leb, ltb}
use lib.ListN.{length}
use borrow.Author.Tests.{not-false}
use Rattle.refusals.specs.declared.Refusal.TheVariants.{Success}
use Rattle.refusals.specs.Ruling.{nowhere, lowest}
use Rattle.gdl.specs.Game.{Game}
use Rattle.rules.specs.Verdict.{fit}
use Rattle.session.specs.Shape.{position_shaped, choices_shaped, shaped}
use Rattle.session.specs.declared.Session.{Session}
use Rattle.calls.specs.declared.Moved.{Moved}
use Rattle.calls.specs.Position.{over, legal, stored, played}
use Rattle.calls.specs.Calls.{chosen, unchosen, illegal, offer_tests, play_tests, model_tests, offer, play}
use Rattle.calls.proofs.Rulings.{kept, AllKept, success_kept}

module _ (G : Game) (σ : Session) (s m : ℕ) where
  pub record OfferPasses : Type 0 where
    pub shape : shaped G σ ≡ true
    pub going : over G σ.position ≡ false
    pub seat : leb G.seats s ≡ false
    pub move : leb G.moves m ≡ false
    pub free : chosen σ s ≡ false
    pub allowed : legal G σ.position s m ≡ true

  pub offer_kept : AllKept (offer_tests σ s m G) → OfferPasses
  unfolding offer_tests
  offer_kept k = record {
    shape = not-false (shaped G σ) (kept (not (shaped G σ)) k.0);
    going = kept (over G σ.position) k.1.0;
    seat = kept (leb G.seats s) k.1.1.0;
    move = kept (leb G.moves m) k.1.1.1.0;
    free = kept (chosen σ s) k.1.1.1.1.0;
    allowed = not-false (legal G σ.position s m) (kept (not (legal G σ.position s m)) k.1.1.1.1.1.0);
  }

  pub offer_passes : (offer (fit G) σ s m).refusal ≡ Success → OfferPasses
  unfolding offer offer_tests
  offer_passes e = offer_kept (success_kept (λ (a : Moved). a.refusal) (offer_tests σ s m G) (λ r. record { refusal = r; session = σ }) (record { refusal = Success; session = stored σ s m })
      (λ p. refl, (λ p. refl, (λ p. refl, (λ p. refl, (λ p. refl, (λ p. refl, tt)))))) (λ r. refl) e)

module _ (G : Game) (σ : Session) where
  pub record PlayPasses : Type 0 where
    pub shape : shaped G σ ≡ true
    pub going : over G σ.position ≡ false
    pub full : lowest (unchosen σ) 0 G.seats ≡ nowhere
    pub allowed : lowest (illegal G σ) 0 G.seats ≡ nowhere
    pub more : eqb σ.round 65535 ≡ false

  pub play_kept : AllKept (play_tests σ G) → PlayPasses
  unfolding play_tests
  play_kept k = record {
    shape = not-false (shaped G σ) (kept (not (shaped G σ)) k.0);
    going = kept (over G σ.position) k.1.0;
    full = k.1.1.0;
    allowed = k.1.1.1.0;
    more = kept (eqb σ.round 65535) k.1.1.1.1.0;
  }

  pub play_passes : (play (fit G) σ).refusal ≡ Success → PlayPasses
  unfolding play play_tests
  play_passes e = play_kept (success_kept (λ (a : Moved). a.refusal) (play_tests σ G) (λ r. record { refusal = r; session = σ }) (record { refusal = Success; session = played G σ })
      (λ p. refl, (λ p. refl, (λ p. refl, (λ p. refl, (λ p. refl, tt))))) (λ r. refl) e)

module _ (G : Game) (pos ch room : List ℕ) where
  pub record ModelPasses : Type 0 where
    pub shape : (position_shaped G pos && choices_shaped G ch) ≡ true
    pub places : ltb (length room) (length G.atoms) ≡ false

  pub model_kept : AllKept (model_tests pos ch (length room) G) → ModelPasses
  unfolding model_tests
  model_kept k = record {
    shape = not-false (position_shaped G pos && choices_shaped G ch) (kept (not (position_shaped G pos && choices_shaped G ch)) k.0);
    places = kept (ltb (length room) (length G.atoms)) k.1.0;
  }
