-- The verdict on a table: a refusal (1 to 13) with its place, or the game that it holds.
use Rattle.refusals.specs.declared.Refusal.{Refusal}
use Rattle.gdl.specs.Game.{Game}

pub data Verdict : Type 0 where
  unfit : Refusal → Verdict
  fit : Game → Verdict
