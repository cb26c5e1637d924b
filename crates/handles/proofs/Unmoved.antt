-- A refused call leaves the record exactly as it was: `unmoved`.
use mathlib.Core.Path.{◌≡◌, ap, ◌∙◌}
use mathlib.Core.Logic.{◌≢◌}
use Prim.Native.Nat.{ℕ}
use Rattle.refusals.specs.declared.Refusal.{Refusal}
use Rattle.refusals.specs.declared.Refusal.TheVariants.{Success}
use Rattle.rules.specs.Verdict.{Verdict}
use Rattle.session.specs.declared.Session.{Session}
use Rattle.calls.specs.declared.Moved.{Moved}
use Rattle.calls.specs.Calls.{offer, play}
use Rattle.calls.proofs.Keeping.{refused_keep}
use Rattle.handles.specs.Moving.{leaves}

-- "On a refusal .. the record is the one given": of whatever refusal r and record σ' the promises of offer and play allow, from the record σ
pub record Unmoved (v : Verdict) (σ : Session) : Type 0 where
  pub of_offer : (s m : ℕ) (r : Refusal) (σ' : Session) → (r, σ') ≡ leaves (offer v σ s m) → r ≢ Success → σ' ≡ σ
  pub of_play : (r : Refusal) (σ' : Session) → (r, σ') ≡ leaves (play v σ) → r ≢ Success → σ' ≡ σ

from : (a : Moved) (σ : Session) → (a.refusal ≢ Success → a.session ≡ σ) → (r : Refusal) (σ' : Session) → (r, σ') ≡ leaves a → r ≢ Success → σ' ≡ σ
from a σ keeps r σ' e ne = ap (λ (p : Refusal × Session). p.1) e ∙ keeps (λ q. ne (ap (λ (p : Refusal × Session). p.0) e ∙ q))

pub unmoved : (v : Verdict) (σ : Session) → Unmoved v σ
unmoved v σ = record {
  of_offer = λ s m. from (offer v σ s m) σ ((refused_keep v).of_offer σ s m);
  of_play = from (play v σ) σ ((refused_keep v).of_play σ);
}
