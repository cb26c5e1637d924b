-- The tests of model in their order, and then the flags copied.
use native.Mathlib.Omega.{arith}
use borrow.Author.Rules.{rules}
use Rattle.gdl.specs.Computed.{model}
use Rattle.answers.proofs.Asking.{limits_are, consults}
use Rattle.answers.proofs.Telling.{position_out, choices_out, room_out, model_copied}
use Rattle.answers.proofs.tells.model_fit.Goals as goal
use Rattle.answers.proofs.tells.model_fit.Goals.{then-not-position_fits-via-then-not-position_fits, then-not-position_fits-via-else-not-position_fits+then-not-choices_fit}

pub returns-then-not-position_fits : goal.returns-then-not-position_fits
returns-then-not-position_fits c =
    let a = c.args in
    λ G ok e. let l = limits_are G (model G a.position a.choices) e c.limits_of-limits.ensures in let w = consults G a.position a.choices ok e in
    elim c.then-not-position_fits.branch [
      | then-not-position_fits-via-then-not-position_fits b ↦ position_out G l w a.room.now c.position_fits.ensures b.if-not-position_fits.true
      | then-not-position_fits-via-else-not-position_fits+then-not-choices_fit b ↦
          choices_out G l w a.room.now c.position_fits.ensures b.if-not-position_fits.false b.choices_fit.ensures b.if-not-choices_fit.true
    ]

pub returns-then-room-atoms : goal.returns-then-room-atoms
returns-then-room-atoms c =
    let a = c.args in
    λ G ok e. room_out G (limits_are G (model G a.position a.choices) e c.limits_of-limits.ensures) (consults G a.position a.choices ok e) a.room.now
    c.position_fits.ensures c.if-not-position_fits.false c.choices_fit.ensures c.if-not-choices_fit.false (omega arith)

pub returns : goal.returns
returns c =
    let a = c.args in
    λ G ok e. model_copied G (limits_are G (model G a.position a.choices) e c.limits_of-limits.ensures) (consults G a.position a.choices ok e) a.room.now
    c.position_fits.ensures c.if-not-position_fits.false c.choices_fit.ensures c.if-not-choices_fit.false (omega arith) _ (search rules)
