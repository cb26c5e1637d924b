-- From an accepted table that was consulted to what the calls ask: the game, its limits, and the readings of its marks.
use mathlib.Core.Path.{◌≡◌, ap, ◌∙◌}
use mathlib.Core.List.{List}
use Prim.Native.Nat.{ℕ, ◌+◌, ◌*◌, ◌<◌, ◌≤◌}
use native.Mathlib.Omega.{arith}
use lib.Dec.{eqb}
use lib.ListN.{length, get_or}
use Rattle.gdl.specs.Game.{Game}
use Rattle.gdl.specs.Flags.{on}
use Rattle.gdl.specs.Computed.{model}
use Rattle.rules.specs.Accepted.{Accepted}
use Rattle.session.specs.Shape.{limits_of}
use Rattle.session.specs.declared.shape.Limits.{Limits}
use Rattle.truth.specs.Marks.{marks_of}
use Rattle.verdict.specs.Consulted.{Consulted, found_in}
use Rattle.calls.specs.Position.{over, legal, goal}
use Rattle.calls.proofs.Settled.{settled}
use Rattle.answers.proofs.Reading.{wide_mark, thin_mark}

-- what the limits of a header are
abbrev pub Headed : Consulted → Limits → Type 0
Headed c l = l ≡ record { seats = c.header.players.seats; fluents = c.header.sizes.fluents; moves = c.header.sizes.moves; percepts = c.header.sizes.percepts }

-- marks of a kind, of whatever is found
abbrev pub MarksIn : Consulted → ℕ → ℕ → List ℕ → Type 0
MarksIn c kind width marks = (G : Game) (X : List ℕ) → c ≡ found_in G X → length G.atoms ≤ 1024 → marks ≡ marks_of kind width G.atoms (on X)

pub limits_are : (G : Game) (X : List ℕ) {c : Consulted} {l : Limits} → c ≡ found_in G X → Headed c l → l ≡ limits_of G
limits_are G X e h = h ∙ ap (λ (x : Consulted). record { seats = x.header.players.seats; fluents = x.header.sizes.fluents; moves = x.header.sizes.moves; percepts = x.header.sizes.percepts }) e

-- ---- what is read

-- an accepted game that was consulted on a position and choices
pub record Consults (c : Consulted) (G : Game) (pos ch : List ℕ) : Type 0 where
  pub accepted : Accepted G
  pub is : c ≡ found_in G (model G pos ch)

pub consults : (G : Game) (pos ch : List ℕ) {c : Consulted} → Accepted G → c ≡ found_in G (model G pos ch) → Consults c G pos ch
consults G pos ch ok e = record { accepted = ok; is = e }

module _ {c : Consulted} {G : Game} {pos ch : List ℕ} (w : Consults c G pos ch) {marks : List ℕ} where
  pub over_mark : MarksIn c 8 1 marks → eqb (get_or marks 0 0) 1 ≡ over G pos
  unfolding over
  over_mark em =
      let L = w.accepted.limits in
      thin_mark G L (on (model G pos ch)) 8 (omega arith) marks (em G (model G pos ch) w.is L.atoms) 0 (omega arith) ∙ settled G w.accepted pos ch 8 0 0 tt

  pub legal_mark : MarksIn c 5 256 marks → (s m : ℕ) → m < 256 → s < 8 → eqb (get_or marks (s * 256 + m) 0) 1 ≡ legal G pos s m
  unfolding legal
  legal_mark em s m small few =
      let L = w.accepted.limits in
      wide_mark G L (on (model G pos ch)) 5 L.moves marks (em G (model G pos ch) w.is L.atoms) s m small (omega arith) ∙ settled G w.accepted pos ch 5 s m tt

  pub goal_mark : MarksIn c 9 256 marks → (s m : ℕ) → m < 256 → s < 8 → eqb (get_or marks (s * 256 + m) 0) 1 ≡ goal G pos s m
  unfolding goal
  goal_mark em s m small few =
      let L = w.accepted.limits in
      wide_mark G L (on (model G pos ch)) 9 (omega arith) marks (em G (model G pos ch) w.is L.atoms) s m small (omega arith) ∙ settled G w.accepted pos ch 9 s m tt
