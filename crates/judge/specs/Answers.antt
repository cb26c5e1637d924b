-- What searches and tests answer, of whatever game is held.
use Rattle.std.specs.Prelude.{Bool, true, false, ℕ, Option, None, Some}
use Rattle.gdl.specs.Game.{Game}
use Rattle.rules.specs.Rules.{Lowest}

-- the lowest place that breaks a rule, or that there is none
abbrev pub Finds : (ℕ → Type 0) → Option ℕ → Type 0
Finds Broken None = (p : ℕ) → Broken p → ⊥
Finds Broken (Some p) = Lowest Broken p

-- whether it is so
abbrev pub Tells : Type 0 → Bool → Type 0
Tells P true = P
Tells P false = P → ⊥

-- the answer of a search
pub record Searched (Held : Game → Type 0) (Broken : Game → ℕ → Type 0) (r : Option ℕ) : Type 0 where
  pub finds : (G : Game) → Held G → Finds (Broken G) r
