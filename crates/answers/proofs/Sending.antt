-- The message of an accepted table that was consulted: its numbers are those that the marks give.
use mathlib.Core.Path.{◌≡◌, sym, ap, ◌∙◌}
use mathlib.Core.Bool.{Bool, true, false, not, cond}
use mathlib.Core.List.{List, [], ◌∷◌, ◌++◌, append_assoc}
use Prim.Native.Nat.{ℕ, ◌*◌, ◌≤◌, ◌<◌}
use native.Mathlib.Omega.{arith}
use lib.Dec.{eqb}
use lib.ListN.{length, get_or}
use borrow.Author.Tests.{le-ltb}
use Rattle.refusals.specs.declared.Refusal.TheVariants.{Success}
use Rattle.numbers.specs.Writing.{written}
use Rattle.gdl.specs.Game.{Game}
use Rattle.gdl.specs.Flags.{bit, blank}
use Rattle.gdl.specs.Lists.{those}
use Rattle.gdl.proofs.Walks.{those_same}
use Rattle.rules.specs.Verdict.{fit}
use Rattle.session.specs.Shape.{shaped, limits_of}
use Rattle.session.specs.declared.Session.{Session}
use Rattle.session.specs.declared.shape.Limits.{Limits}
use Rattle.session.proofs.Shapes.{shaped_parts}
use Rattle.message.specs.Message.{from, message_of}
use Rattle.verdict.specs.Consulted.{Consulted}
use Rattle.calls.specs.Position.{over, legal, goal}
use Rattle.calls.specs.Message.{counted, percepts_of, legal_of, goals_of, message_numbers}
use Rattle.calls.specs.Calls.{message}
use Rattle.answers.proofs.Writing.{message_written}
use Rattle.answers.proofs.Asking.{MarksIn, Consults, over_mark, legal_mark, goal_mark}
use Rattle.answers.proofs.Outcomes.{Below, below_few}

module _ (G : Game) (σ : Session) {l : Limits} (here : l ≡ limits_of G) {c : Consulted} (w : Consults c G σ.position (blank 8)) {z row : ℕ} (hz : Below G.seats z row) where
  small : z < 8
  small = omega (arith, hz.is, below_few hz w.accepted.limits.seats)

  module _ {ends legals goals : List ℕ} (ee : MarksIn c 8 1 ends) (el : MarksIn c 5 256 legals) (eg : MarksIn c 9 256 goals) where
    pub numbers_are : message_of (record { seat = z; round = σ.round; over = eqb (get_or ends 0 0) 1; percepts = l.percepts; moves = l.moves }) σ.percepts legals goals ≡ message_numbers G σ z
    unfolding message_of message_numbers
    numbers_are =
        let end : eqb (get_or ends 0 0) 1 ≡ over G σ.position = over_mark w ee in
        let P : those l.percepts (from σ.percepts (z * 256)) ≡ percepts_of G σ z = ap (λ (x : Limits). those x.percepts (from σ.percepts (z * 256))) here in
        let L : those l.moves (from legals (z * 256)) ≡ legal_of G σ z =
        ap (λ (x : Limits). those x.moves (from legals (z * 256))) here ∙ those_same (from legals (z * 256)) (legal G σ.position z) G.moves
        (λ k kl. legal_mark w el z k (omega (arith, w.accepted.limits.moves)) small) in
        let W : those 101 (from goals (z * 256)) ≡ goals_of G σ z =
        those_same (from goals (z * 256)) (goal G σ.position z) 101 (λ k kl. goal_mark w eg z k (omega arith) small) in
        ap (λ (b : Bool). ours b (those l.percepts (from σ.percepts (z * 256))) (those l.moves (from legals (z * 256))) (those 101 (from goals (z * 256)))) end
        ∙ ap (λ (x : List ℕ). ours (over G σ.position) x (those l.moves (from legals (z * 256))) (those 101 (from goals (z * 256)))) P
        ∙ ap (λ (x : List ℕ). ours (over G σ.position) (percepts_of G σ z) x (those 101 (from goals (z * 256)))) L
        ∙ ap (λ (x : List ℕ). ours (over G σ.position) (percepts_of G σ z) (legal_of G σ z) x) W
        ∙ flip (over G σ.position) (percepts_of G σ z) (legal_of G σ z) (goals_of G σ z)
      where
        ours : Bool → List ℕ → List ℕ → List ℕ → List ℕ
        ours b p m w = z ∷ σ.round ∷ bit b ∷ (counted p ++ (counted (cond (not b) m []) ++ counted (cond b w [])))

        flip : (b : Bool) (p m w : List ℕ) → ours b p m w ≡ z ∷ σ.round ∷ bit b ∷ counted p ++ counted (cond b [] m) ++ counted (cond b w [])
        flip true p m w = ap (λ (x : List ℕ). z ∷ σ.round ∷ 1 ∷ x) (sym (append_assoc (counted p) (counted []) (counted w)))
        flip false p m w = ap (λ (x : List ℕ). z ∷ σ.round ∷ 0 ∷ x) (sym (append_assoc (counted p) (counted m) (counted [])))

    pub message_sent : (room : List ℕ) (at : ℕ) (now : List ℕ) → shaped G σ ≡ true → 1024 ≤ length room
        → (at, now) ≡ written (message_of (record { seat = z; round = σ.round; over = eqb (get_or ends 0 0) 1; percepts = l.percepts; moves = l.moves }) σ.percepts legals goals) (0, room)
        → (record { refusal = Success; length = at }, now) ≡ message (fit G) σ z room
    message_sent room at now a long e =
        message_written G w.accepted σ z room at now a hz.below (le-ltb (length room) 1024 long) (e ∙ ap (λ (x : List ℕ). written x (0, room)) numbers_are)

pub round_fits : (G : Game) (σ : Session) → shaped G σ ≡ true → σ.round ≤ 65535
round_fits G σ e = (shaped_parts G σ (rw e tt)).round
