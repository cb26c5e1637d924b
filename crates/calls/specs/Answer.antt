-- How an answer is written: the tests in their order, what a refusal hands back, and what is done where none strikes.
use Rattle.std.specs.Prelude.{Bool, List, eqb}
use Rattle.refusals.specs.Refusal.{number_of}
use Rattle.refusals.specs.declared.Refusal.{Refusal}
use Rattle.refusals.specs.Ruling.{Test, Ruling, passed, refused, first_of}
use Rattle.gdl.specs.Game.{Game}
use Rattle.rules.specs.Verdict.{Verdict, unfit, fit}

-- "Success answers 0"
abbrev pub is_success : Refusal → Bool
is_success r = eqb (number_of r) 0

abbrev pub settle {ℓ} : {W : Type ℓ} → Ruling → (Refusal → W) → W → W
settle passed refusal work = work
settle (refused r) refusal work = refusal r

-- "Each call tests the table first, then .." its own tests. W is what the call answers, or what it promises of its answer.
abbrev pub answer {ℓ} : {W : Type ℓ} → Verdict → (Game → List Test) → (Refusal → W) → (Game → W) → W
answer (unfit r) tests refusal work = refusal r
answer (fit G) tests refusal work = settle (first_of (tests G)) refusal (work G)
