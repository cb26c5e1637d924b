-- Which records are well shaped: "A session". And the blank record.
use Rattle.std.specs.Prelude.{◌≡◌, Bool, ◌&&◌, cond, List, ℕ, suc, ◌+◌, ◌*◌, ◌/◌, ◌%◌, ◌≤◌, ◌<◌, leb, ltb, get_or}
use Rattle.gdl.specs.Game.{Game}
use Rattle.gdl.specs.Flags.{bit, blank}
use Rattle.gdl.specs.Lists.{every}
use Rattle.session.specs.declared.Session.{Session}
use Rattle.session.specs.declared.shape.Limits.{Limits}

-- ---- in the page's words

-- "all flags are 0 or 1, none is set at or beyond F"
pub record PositionFits (G : Game) (pos : List ℕ) : Type 0 where
  pub flags : (f : ℕ) → get_or pos f 0 ≤ 1
  pub beyond : (f : ℕ) → G.fluents ≤ f → get_or pos f 0 ≡ 0

-- "each choice is none or a move below M, and seats from R on have none"
pub record ChoicesFit (G : Game) (ch : List ℕ) : Type 0 where
  pub moves : (s m : ℕ) → get_or ch s 0 ≡ suc m → m < G.moves
  pub beyond : (s : ℕ) → G.seats ≤ s → get_or ch s 0 ≡ 0

-- "all flags are 0 or 1, none is set at or beyond .. R or P"
pub record PerceptsFit (G : Game) (ps : List ℕ) : Type 0 where
  pub flags : (i : ℕ) → get_or ps i 0 ≤ 1
  pub beyond_seats : (s p : ℕ) → p < 256 → G.seats ≤ s → get_or ps (s * 256 + p) 0 ≡ 0
  pub beyond_percepts : (s p : ℕ) → p < 256 → G.percepts ≤ p → get_or ps (s * 256 + p) 0 ≡ 0

-- "It is well shaped if the round is at most 65,535, .."
pub record WellShaped (G : Game) (σ : Session) : Type 0 where
  pub round : σ.round ≤ 65535
  pub position : PositionFits G σ.position
  pub choices : ChoicesFit G σ.choices
  pub percepts : PerceptsFit G σ.percepts

-- ---- as a test of each element

-- "all flags are 0 or 1, none is set at or beyond F, R or P": the places that may be set
abbrev pub below : ℕ → ℕ → Bool
below end f = ltb f end

abbrev pub fluent_fits : Game → ℕ → Bool
fluent_fits G f = below G.fluents f

-- a place is in the first `rows` rows of `width`, and in the first `columns` of its row
abbrev pub in_grid : ℕ → ℕ → ℕ → ℕ → Bool
in_grid width rows columns i = ltb (i / width) rows && ltb (i % width) columns

abbrev pub percept_fits : Game → ℕ → Bool
percept_fits G i = in_grid 256 G.seats G.percepts i

-- a flag is at most 1 where it may be set, and else 0
abbrev pub flag_fits : (ℕ → Bool) → ℕ → ℕ → Bool
flag_fits may i x = leb x (bit (may i))

-- "each choice is none or a move below M, and seats from R on have none": one more than the move is at most M
abbrev pub choice_within : ℕ → ℕ → ℕ → ℕ → Bool
choice_within seats moves s x = leb x (cond (ltb s seats) moves 0)

abbrev pub choice_fits : Game → ℕ → ℕ → Bool
choice_fits G s x = choice_within G.seats G.moves s x

-- "The position and choice given to the model call obey the same."
unfoldable pub position_shaped : Game → List ℕ → Bool
position_shaped G pos = every (flag_fits (fluent_fits G)) pos

unfoldable pub choices_shaped : Game → List ℕ → Bool
choices_shaped G ch = every (choice_fits G) ch

unfoldable pub percepts_shaped : Game → List ℕ → Bool
percepts_shaped G ps = every (flag_fits (percept_fits G)) ps

-- how much of each thing a game has
abbrev pub limits_of : Game → Limits
limits_of G = record { seats = G.seats; fluents = G.fluents; moves = G.moves; percepts = G.percepts }

-- "It is well shaped if the round is at most 65,535, .."
unfoldable pub shaped : Game → Session → Bool
shaped G σ = leb σ.round 65535 && (position_shaped G σ.position && (choices_shaped G σ.choices && percepts_shaped G σ.percepts))

-- "a blank record (round 0, nothing set or chosen)"
abbrev pub blank_session : Session
blank_session = record { position = blank 512; choices = blank 8; percepts = blank 2048; round = 0 }
