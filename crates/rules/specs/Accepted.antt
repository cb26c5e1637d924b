-- What the crates above use of the game of an accepted table.
use Rattle.std.specs.Prelude.{◌≡◌, [], ℕ, ◌<◌}
use Rattle.gdl.specs.Game.{Game}
use Rattle.gdl.specs.Valid.{Valid}
use Rattle.rules.specs.Rules.{RoleFact, ValidTable}
use Rattle.rules.specs.Limits.{Limits}

-- "Every seat's role atom is in the table and is the head of a clause", and "a clause whose head is a role atom has no literals": a fact
pub record BareRole (G : Game) (s : ℕ) : Type 0 where
  pub fact : RoleFact G s
  pub bare : fact.clause.body ≡ []

pub record Accepted (G : Game) : Type 0 where
  pub limits : Limits G
  pub rules : ValidTable G
  pub valid : Valid G
  pub roles : (s : ℕ) → s < G.seats → BareRole G s
