-- The tests of a record and of an offer on an accepted table that was consulted, each as the outcome that the code found.
use mathlib.Core.Path.{◌≡◌, sym, ap, ◌∙◌}
use mathlib.Core.Bool.{true, false, not}
use mathlib.Core.List.{List}
use Prim.Native.Nat.{ℕ, ◌+◌, ◌*◌}
use lib.Dec.{eqb}
use lib.ListN.{get_or}
use borrow.Author.Tests.{ne_eqb, eq-eqb}
use Rattle.gdl.specs.Game.{Game}
use Rattle.session.specs.declared.Session.{Session}
use Rattle.verdict.specs.Consulted.{Consulted}
use Rattle.calls.specs.Position.{over, legal}
use Rattle.calls.specs.Calls.{chosen}
use Rattle.answers.proofs.Asking.{MarksIn, Consults, over_mark, legal_mark}
use Rattle.answers.proofs.Outcomes.{Below, below_few}

module _ {c : Consulted} {G : Game} {pos ch : List ℕ} (w : Consults c G pos ch) {marks : List ℕ} where
  pub is_over : MarksIn c 8 1 marks → get_or marks 0 0 ≡ 1 → over G pos ≡ true
  is_over em t = sym (over_mark w em) ∙ eq-eqb (get_or marks 0 0) 1 t

  pub goes_on_lem : MarksIn c 8 1 marks → (get_or marks 0 0 ≡ 1 → ⊥) → over G pos ≡ false
  goes_on_lem em n = sym (over_mark w em) ∙ ne_eqb (get_or marks 0 0) 1 n

  module _ (em : MarksIn c 5 256 marks) {s m row column : ℕ} (hs : Below G.seats s row) (hm : Below G.moves m column) where
    may : eqb (get_or marks (row * 256 + column) 0) 1 ≡ legal G pos s m
    may =
        let L = w.accepted.limits in
        rw (← hs.is, ← hm.is) (legal_mark w em row column (below_few hm L.moves) (below_few hs L.seats))

    pub is_illegal : (get_or marks (row * 256 + column) 0 ≡ 1 → ⊥) → legal G pos s m ≡ false
    is_illegal n = sym may ∙ ne_eqb (get_or marks (row * 256 + column) 0) 1 n

    pub is_legal_lem : get_or marks (row * 256 + column) 0 ≡ 1 → legal G pos s m ≡ true
    is_legal_lem t = sym may ∙ eq-eqb (get_or marks (row * 256 + column) 0) 1 t

module _ (σ : Session) {end s row : ℕ} (hs : Below end s row) where
  pub has_chosen : (get_or σ.choices row 0 ≡ 0 → ⊥) → chosen σ s ≡ true
  has_chosen n = rw hs.is at (ap not (ne_eqb (get_or σ.choices row 0) 0 n))

  pub not_chosen : get_or σ.choices row 0 ≡ 0 → chosen σ s ≡ false
  not_chosen t = rw hs.is at (ap not (eq-eqb (get_or σ.choices row 0) 0 t))
