-- What is the same of two such tables: the number of the refusal, or every answer of every call.
use Rattle.std.specs.Prelude.{◌≡◌, ◌↔◌, ℕ, ◌≤◌}
use Rattle.refusals.specs.declared.Refusal.{Refusal}
use Rattle.refusals.specs.Refusal.{number_of, place_of}
use Rattle.gdl.specs.Game.{Game}
use Rattle.gdl.specs.Sets.{Atoms}
use Rattle.gdl.specs.Truth.{State, Joint, Model}
use Rattle.gdl.specs.Reach.{Hidden}
use Rattle.rules.specs.Verdict.{Verdict, unfit, fit}
use Rattle.calls.specs.Calls.{claim}
use Rattle.calls.specs.Same.{SameAnswers}

-- "The place of 6 to 8 may differ."
abbrev pub MayDiffer : ℕ → Type 0
MayDiffer number = (6 ≤ number) × (number ≤ 8)

-- "both get the same refusal number"; but for 6 to 8 the place is the same too
pub record SameRefusal (r q : Refusal) : Type 0 where
  pub number : number_of r ≡ number_of q
  pub place : ¬ MayDiffer (number_of r) → place_of r ≡ place_of q

-- "both are accepted or both get the same refusal number": where both are accepted, their games are as `Both` asks
abbrev pub SameVerdict : (Game → Game → Type 0) → Verdict → Verdict → Type 0
SameVerdict Both (fit G) (fit H) = Both G H
SameVerdict Both (fit G) (unfit q) = ⊥
SameVerdict Both (unfit r) (fit H) = ⊥
SameVerdict Both (unfit r) (unfit q) = SameRefusal r q

-- "models, messages, hidden moves .. are equal": the notions, and the answers of every call, whatever record, position, numbers and room it is given
pub record SameMeaning (G H : Game) : Type 0 where
  pub models : (S : State) (A : Joint) (X : Atoms) → Model G S A X ↔ Model H S A X
  pub hides : (z s m : ℕ) → Hidden G z s m ↔ Hidden H z s m
  pub of_claim : claim (fit G) ≡ claim (fit H)
  pub of_others : SameAnswers (fit G) (fit H)
