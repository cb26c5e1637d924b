-- What the calls' inner functions ask for: an accepted table, consulted on a position and choices.
use Rattle.std.specs.Prelude.{◌≡◌, List, ℕ}
use Rattle.gdl.specs.Game.{Game}
use Rattle.gdl.specs.Computed.{model, reach_of}
use Rattle.rules.specs.Accepted.{Accepted}
use Rattle.verdict.specs.Consulted.{Consulted, found_in}

pub record Asked (found : Consulted) (pos ch : List ℕ) : Type 0 where
  pub game : Game
  pub accepted : Accepted game
  pub is : found ≡ found_in game (model game pos ch)

-- an accepted table, traced for a seat
pub record Traced (found : Consulted) (z : ℕ) : Type 0 where
  pub game : Game
  pub accepted : Accepted game
  pub is : found ≡ found_in game (reach_of game z)
