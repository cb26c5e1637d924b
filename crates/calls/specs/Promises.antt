-- The promises that are relations to the declared notions: of the check, of the model call and of hidden. Those of the other calls are equations
-- with the answers of `Calls`.
use Rattle.std.specs.Prelude.{◌≡◌, ◌⊎◌, ◌↔◌, List, ℕ, ◌<◌, T, length, get_or, drop}
use Rattle.refusals.specs.declared.Refusal.{Refusal}
use Rattle.refusals.specs.declared.Refusal.TheVariants.{Success}
use Rattle.gdl.specs.Game.{Game}
use Rattle.gdl.specs.Sets.{Atoms}
use Rattle.gdl.specs.Truth.{Model}
use Rattle.gdl.specs.Reach.{Hidden}
use Rattle.gdl.specs.Flags.{on}
use Rattle.gdl.specs.Computed.{did}
use Rattle.rules.specs.Verdict.{Verdict}
use Rattle.rules.specs.Rules.{Judged}
use Rattle.calls.specs.declared.Looked.{Looked}
use Rattle.calls.specs.Answer.{answer}
use Rattle.calls.specs.Calls.{model_tests, hidden_tests, check}

-- a number that says whether P holds: 1 if so, else 0
pub record Flag (P : Type 0) (x : ℕ) : Type 0 where
  pub bit : (x ≡ 0) ⊎ (x ≡ 1)
  pub one : (x ≡ 1) ↔ P

-- the check answers what the rules of a valid table come to
pub record CheckPromise (s : List ℕ) (r : Refusal) : Type 0 where
  pub verdict : Verdict
  pub judged : Judged s verdict
  pub answers : r ≡ check verdict

-- "writes one flag for each atom, 0 or 1, into the first A places of lent room; later places stay"
pub record ModelWritten (G : Game) (pos ch room : List ℕ) (a : Refusal × List ℕ) : Type 0 where
  pub refusal : a.0 ≡ Success
  pub size : length a.1 ≡ length room
  pub flags : (p : ℕ) → p < length G.atoms → Flag ((X : Atoms) → Model G (on pos) (did ch) X → T (X p)) (get_or a.1 p 0)
  pub later : drop (length G.atoms) a.1 ≡ drop (length G.atoms) room

abbrev pub ModelPromise : Verdict → List ℕ → List ℕ → List ℕ → Refusal × List ℕ → Type 0
ModelPromise v pos ch room = answer v (model_tests pos ch (length room)) (λ r a. a ≡ (r, room)) (λ G a. ModelWritten G pos ch room a)

-- "hidden .. (the call answers 1, else 0)"
pub record HiddenSaid (G : Game) (asking moving m : ℕ) (a : Looked) : Type 0 where
  pub refusal : a.refusal ≡ Success
  pub hidden : Flag (Hidden G asking moving m) a.hidden

abbrev pub HiddenPromise : Verdict → ℕ → ℕ → ℕ → Looked → Type 0
HiddenPromise v asking moving m = answer v (hidden_tests asking moving m) (λ r a. a ≡ record { refusal = r; hidden = 0 }) (λ G a. HiddenSaid G asking moving m a)
