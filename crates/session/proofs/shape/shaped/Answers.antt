-- A record fits if its round, position, choices and percepts do.
use mathlib.Core.Path.{◌≡◌, ◌∙◌}
use mathlib.Core.Bool.{◌&&◌}
use lib.Dec.{leb}
use borrow.Author.Tests.{le-leb, lt-leb}
use Rattle.session.proofs.Fits.{asked, unasked, position_part, choices_part, by_parts}
use Rattle.session.proofs.shape.shaped.Goals as goal
use Rattle.session.proofs.shape.shaped.Goals.{then-s-le65535, else-s-le65535, then-position_fits, else-position_fits}

pub returns-then-choices_fit : goal.returns-then-choices_fit
returns-then-choices_fit c =
    let a = c.args in
    let first : c.if-s-le65535.value ≡ (leb a.s.round 65535 && position_part a.s a.l) = elim c.if-s-le65535.branch [
      | then-s-le65535 w ↦ asked _ _ _ (le-leb _ _ w.if-s-le65535.true) (w.value-is ∙ w.position_fits.ensures)
      | else-s-le65535 w ↦ let late = lt-leb a.s.round 65535 w.if-s-le65535.false in unasked _ _ _ late (w.value-is ∙ late)
    ] in
    let second : c.if-position_fits.value ≡ (c.if-s-le65535.value && choices_part a.s a.l) = elim c.if-position_fits.branch [
      | then-position_fits w ↦ asked _ _ _ w.if-position_fits.true (w.value-is ∙ w.choices_fit.ensures)
      | else-position_fits w ↦ unasked _ _ _ w.if-position_fits.false (w.value-is ∙ w.if-position_fits.false)
    ] in
    by_parts a.s a.l _ _ _ first second (asked _ _ _ c.if-choices_fit.true c.flags_fit.ensures)

pub returns-else-choices_fit : goal.returns-else-choices_fit
returns-else-choices_fit c =
    let a = c.args in
    let first : c.if-s-le65535.value ≡ (leb a.s.round 65535 && position_part a.s a.l) = elim c.if-s-le65535.branch [
      | then-s-le65535 w ↦ asked _ _ _ (le-leb _ _ w.if-s-le65535.true) (w.value-is ∙ w.position_fits.ensures)
      | else-s-le65535 w ↦ let late = lt-leb a.s.round 65535 w.if-s-le65535.false in unasked _ _ _ late (w.value-is ∙ late)
    ] in
    let second : c.if-position_fits.value ≡ (c.if-s-le65535.value && choices_part a.s a.l) = elim c.if-position_fits.branch [
      | then-position_fits w ↦ asked _ _ _ w.if-position_fits.true (w.value-is ∙ w.choices_fit.ensures)
      | else-position_fits w ↦ unasked _ _ _ w.if-position_fits.false (w.value-is ∙ w.if-position_fits.false)
    ] in
    by_parts a.s a.l _ _ _ first second (unasked _ _ _ c.if-choices_fit.false c.if-choices_fit.false)
