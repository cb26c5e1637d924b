-- The verdict on a table that was read into lent arrays.
use Rattle.std.specs.Prelude.{◌≡◌, List, ℕ, Result, Ok, Err}
use Rattle.refusals.specs.declared.Refusal.{Refusal}
use Rattle.gdl.specs.Game.{Game}
use Rattle.table.specs.declared.tables.Arrays.{Arrays}
use Rattle.rules.specs.Rules.{Ruled}
use Rattle.rules.specs.Verdict.{Verdict, unfit, fit}
use Rattle.judge.specs.Judgement.{Levelled}
use Rattle.verdict.specs.Laid.{Laid}
use Rattle.verdict.specs.declared.Weighed.{Weighed}

-- the game of an accepted table in its arrays, with its levels
pub record Fits (v : Verdict) (w : Weighed) (arrays : Arrays) (levels : List ℕ) : Type 0 where
  pub game : Game
  pub verdict : v ≡ fit game
  pub laid : Laid w.read arrays game
  pub ruled : Ruled game (fit game)
  pub levelled : Levelled game levels w.top

-- what an answer says of the verdict and the arrays
abbrev pub Weighs : Verdict → Result Weighed Refusal → Arrays → List ℕ → Type 0
Weighs v (Ok w) arrays levels = Fits v w arrays levels
Weighs v (Err f) arrays levels = v ≡ unfit f
