-- "For every input, refused ones too, a call's promise determines its answer, the record and every byte of lent room": `determined`.
use mathlib.Core.Path.{◌≡◌}
use mathlib.Core.List.{List}
use Prim.Native.Nat.{ℕ}
use Rattle.rules.specs.Judged.{judge}
use Rattle.session.specs.declared.Session.{Session}
use Rattle.calls.specs.declared.Claimed.{Claimed}
use Rattle.calls.specs.declared.Moved.{Moved}
use Rattle.calls.specs.declared.Sent.{Sent}
use Rattle.calls.specs.Calls.{claim, open_game, offer, play, message}
use Rattle.calls.specs.Promises.{CheckPromise, ModelPromise, HiddenPromise}
use Rattle.calls.proofs.Determining.{by_equation, check_determined, model_determined, hidden_determined}

-- any two answers that a promise allows are equal
abbrev pub Determines : {W : Type 0} → (W → Type 0) → Type 0
Determines {W = W} Promise = (a b : W) → Promise a → Promise b → a ≡ b

-- of each call on the bytes s of a table
pub record Determined (s : List ℕ) : Type 0 where
  pub of_check : Determines (CheckPromise s)
  pub of_claim : Determines (λ (a : Claimed). a ≡ claim (judge s))
  pub of_open : Determines (λ (a : Moved). a ≡ open_game (judge s))
  pub of_offer : (σ : Session) (z m : ℕ) → Determines (λ (a : Moved). a ≡ offer (judge s) σ z m)
  pub of_play : (σ : Session) → Determines (λ (a : Moved). a ≡ play (judge s) σ)
  pub of_model : (pos ch room : List ℕ) → Determines (ModelPromise (judge s) pos ch room)
  pub of_message : (σ : Session) (z : ℕ) (room : List ℕ) → Determines (λ (a : Sent × List ℕ). a ≡ message (judge s) σ z room)
  pub of_hidden : (asking moving m : ℕ) → Determines (HiddenPromise (judge s) asking moving m)

pub determined : (s : List ℕ) → Determined s
determined s = record {
  of_check = check_determined s;
  of_claim = λ a b. by_equation;
  of_open = λ a b. by_equation;
  of_offer = λ σ z m a b. by_equation;
  of_play = λ σ a b. by_equation;
  of_model = model_determined (judge s);
  of_message = λ σ z room a b. by_equation;
  of_hidden = hidden_determined (judge s);
}
