-- Demand 2 as one record: the calls on an accepted table give the published semantics of its game, in the papers' letters.
use Rattle.std.specs.Prelude.{◌≡◌, ◌↔◌, ◌≢◌, ℕ, suc, ◌+◌, ◌*◌, ◌≤◌, ◌<◌, T, get_or, drop}
use mathlib.Core.List.{List, [], ◌∷◌, ◌++◌, Memᴰ}
use Rattle.std.proofs.Math.ListN as N
use Rattle.numbers.specs.Writing.{bytes_of}
use Rattle.refusals.specs.declared.Refusal.{Refusal}
use Rattle.refusals.specs.declared.Refusal.TheVariants.{Success}
use Rattle.gdl.specs.Game.{Game}
use Rattle.gdl.specs.Sets.{Atoms}
use Rattle.gdl.specs.Truth.{State, Model}
use Rattle.gdl.specs.Published.{R, s₁, t, l, u, 𝓘, g}
use Rattle.gdl.specs.Reach.{Reach}
use Rattle.gdl.specs.Flags.{on}
use Rattle.gdl.specs.Computed.{did}
use Rattle.rules.specs.Verdict.{fit}
use Rattle.session.specs.Shape.{PositionFits, ChoicesFit, WellShaped}
use Rattle.session.specs.declared.Session.{Session}
use Rattle.calls.specs.declared.Sent.{Sent}
use Rattle.calls.specs.Calls.{open_game, offer, play, message, truth, hidden_from}
use Rattle.calls.specs.Promises.{Flag, HiddenSaid}

-- a record's position as a state
abbrev pub state_of : Session → State
state_of σ = on σ.position

-- ---- the lists of a message

-- "ascending"
abbrev pub Below : ℕ → List ℕ → Type 0
Below x [] = Unit {0}
Below x (y ∷ ys) = x < y

abbrev pub Ascending : List ℕ → Type 0
Ascending [] = Unit {0}
Ascending (x ∷ xs) = Below x xs × Ascending xs

-- the ascending list of a set
pub record Lists (P : ℕ → Type 0) (xs : List ℕ) : Type 0 where
  pub ascending : Ascending xs
  pub exactly : (x : ℕ) → Memᴰ x xs ↔ P x

-- "seat; round; 1 if over else 0; count of percepts and the percepts ..; count of legal moves and the moves ..; count of goal values and the values"
abbrev pub told : ℕ → ℕ → ℕ → List ℕ → List ℕ → List ℕ → List ℕ
told r round end percepts moves goals = r ∷ round ∷ end ∷ N.length percepts ∷ percepts ++ (N.length moves ∷ moves) ++ (N.length goals ∷ goals)

-- what a message tells seat r: the end by t, the percepts of the record, the legal moves by l and the goals by g
pub record MessageMeans (G : Game) (σ : Session) (r : ℕ) (room : List ℕ) (a : Sent × List ℕ) : Type 0 where
  pub end : ℕ
  pub percepts : List ℕ
  pub moves : List ℕ
  pub goals : List ℕ
  -- "1 if over else 0"
  pub ended : Flag (t G (state_of σ)) end
  pub seen : Lists (λ p. (p < G.percepts) × T (on σ.percepts (r * 256 + p))) percepts
  -- "(count 0 when over)", "(count 0 unless over)"
  pub may : Lists (λ m. (¬ t G (state_of σ)) × l G r m (state_of σ)) moves
  pub won : Lists (λ n. t G (state_of σ) × g G r n (state_of σ)) goals
  pub refusal : a.0.refusal ≡ Success
  pub length : a.0.length ≡ N.length (bytes_of (told r σ.round end percepts moves goals))
  pub written : a.1 ≡ bytes_of (told r σ.round end percepts moves goals) ++ drop a.0.length room

-- ---- the other calls

-- an accepted offer of move m by seat r leaves σ with that choice, and changes nothing else
pub record Chose (σ : Session) (r m : ℕ) (τ : Session) : Type 0 where
  pub own : get_or τ.choices r 0 ≡ suc m
  pub others : (s : ℕ) → s ≢ r → get_or τ.choices s 0 ≡ get_or σ.choices s 0
  pub position : τ.position ≡ σ.position
  pub percepts : τ.percepts ≡ σ.percepts
  pub round : τ.round ≡ σ.round

-- when a round can be played
pub record Playable (G : Game) (σ : Session) : Type 0 where
  pub going : ¬ t G (state_of σ)
  pub each : (r : ℕ) → r < G.seats → (m : ℕ) × (get_or σ.choices r 0 ≡ suc m) × l G r m (state_of σ)
  pub rounds : σ.round ≢ 65535

-- the model call writes the standard model, by whatever numbering
pub record TruthMeans (G : Game) (pos ch : List ℕ) (a : Refusal × List ℕ) : Type 0 where
  pub refusal : a.0 ≡ Success
  pub flags : (X : Atoms) → Model G (on pos) (did ch) X → (p : ℕ) → p < N.length G.atoms → Flag (T (X p)) (get_or a.1 p 0)

pub record Published (G : Game) : Type 0 where
  -- every seat below R has G ⊨ role, and none else
  pub roles : (r : ℕ) → (r < G.seats) ↔ R G r
  -- open's position is s₁
  pub opens : (open_game (fit G)).refusal ≡ Success
  pub opening : (f : ℕ) → T (state_of (open_game (fit G)).session f) ↔ s₁ G f
  -- offer accepts exactly l, from a seat that has not chosen, and stores the move
  pub legal : (σ : Session) (r m : ℕ) → WellShaped G σ → ¬ t G (state_of σ) → get_or σ.choices r 0 ≡ 0
      → ((offer (fit G) σ r m).refusal ≡ Success) ↔ l G r m (state_of σ)
  pub offering : (σ : Session) (r m : ℕ) → N.length σ.choices ≡ 8 → (offer (fit G) σ r m).refusal ≡ Success → Chose σ r m (offer (fit G) σ r m).session
  -- play's position is u of the joint move and the position, and its percepts are 𝓘
  pub playing : (σ : Session) → WellShaped G σ → ((play (fit G) σ).refusal ≡ Success) ↔ Playable G σ
  pub next : (σ : Session) → (play (fit G) σ).refusal ≡ Success → (f : ℕ) → T (state_of (play (fit G) σ).session f) ↔ u G (did σ.choices) (state_of σ) f
  pub percepts : (σ : Session) → (play (fit G) σ).refusal ≡ Success → (r p : ℕ) → p < 256
      → T (on (play (fit G) σ).session.percepts (r * 256 + p)) ↔ 𝓘 G r (did σ.choices) (state_of σ) p
  -- the message tells the end by t, and lists the percepts, l and g
  pub message : (σ : Session) (r : ℕ) (room : List ℕ) → WellShaped G σ → r < G.seats → 1024 ≤ N.length room
      → MessageMeans G σ r room (message (fit G) σ r room)
  -- the model call's flags are the standard model
  pub truth : (pos ch room : List ℕ) → PositionFits G pos → ChoicesFit G ch → N.length G.atoms ≤ N.length room
      → TruthMeans G pos ch (truth (fit G) pos ch room)
  -- hidden are exactly the moves whose does atom is not in the least reach set
  pub hidden : (r s m : ℕ) → r < G.seats → s < G.seats → m < G.moves → HiddenSaid G r s m (hidden_from (fit G) r s m)
  -- so that "every model" and "the reach" speak of something
  pub models : (pos ch : List ℕ) → (X : Atoms) × Model G (on pos) (did ch) X
  pub reaches : (z : ℕ) → (X : Atoms) × Reach G z X
