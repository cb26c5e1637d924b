-- Each promise fixes the answer and what is lent by `&mut`: any two that it allows are equal.
use mathlib.Core.Path.{◌≡◌}
use mathlib.Core.List.{List}
use Prim.Native.Nat.{ℕ}
use Rattle.refusals.specs.declared.Refusal.{Refusal}
use Rattle.rules.specs.Judged.{judge}
use Rattle.session.specs.declared.Session.{Session}
use Rattle.calls.specs.Calls.{offer, play}
use Rattle.calls.proofs.Determining.{by_equation}
use Rattle.handles.specs.Moving.{leaves}

abbrev pub Determines : {W : Type 0} → (W → Type 0) → Type 0
Determines {W = W} Promise = (a b : W) → Promise a → Promise b → a ≡ b

pub record Determined (s : List ℕ) : Type 0 where
  pub of_offer : (σ : Session) (z m : ℕ) → Determines (λ (a : Refusal × Session). a ≡ leaves (offer (judge s) σ z m))
  pub of_play : (σ : Session) → Determines (λ (a : Refusal × Session). a ≡ leaves (play (judge s) σ))

pub determined : (s : List ℕ) → Determined s
determined s = record {
  of_offer = λ σ z m a b. by_equation;
  of_play = λ σ a b. by_equation;
}
