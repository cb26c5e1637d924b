-- The tests of hidden in their order, and then the mark of the move in the reach.
use Rattle.refusals.specs.declared.Refusal.TheVariants.{NoSuchSeat, NoSuchMove}
use Rattle.gdl.specs.Computed.{reach_of}
use Rattle.answers.proofs.Asking.{limits_are}
use Rattle.answers.proofs.Outcomes.{handed_on, not_below, is_below, seats_are, moves_are}
use Rattle.answers.proofs.Looking.{looked_is}
use Rattle.calls.proofs.Returns.{hidden_no_asking, hidden_no_moving, hidden_no_move}
use Rattle.answers.proofs.looks.looked.Goals as goal

pub returns-in_err-within : goal.returns-in_err-within
returns-in_err-within c =
    let z = c.args.asking.0 in
    λ G ok e. let n = not_below (seats_are G (limits_are G (reach_of G z) e c.limits_of-limits.ensures)) z _ c.in_err-within.ensures in
    rw (handed_on _ c.from_residual.ensures.1 NoSuchSeat n.0) (hidden_no_asking G _ _ _ n.1)

pub returns-in_err-row : goal.returns-in_err-row
returns-in_err-row c =
    let z = c.args.asking.0 in
    λ G ok e. let l = limits_are G (reach_of G z) e c.limits_of-limits.ensures in let n = not_below (seats_are G l) c.args.moving.0 _ c.in_err-row.ensures in
    rw (handed_on _ c.from_residual-in_err-row.ensures.1 NoSuchSeat n.0) (hidden_no_moving G _ _ _ (is_below (seats_are G l) z _ c.in_ok-within.ensures).below n.1)

pub returns-in_err-column : goal.returns-in_err-column
returns-in_err-column c =
    let z = c.args.asking.0 in
    λ G ok e. let l = limits_are G (reach_of G z) e c.limits_of-limits.ensures in let n = not_below (moves_are G l) c.args.choice.0 _ c.in_err-column.ensures in
    rw (handed_on _ c.from_residual-in_err-column.ensures.1 NoSuchMove n.0)
    (hidden_no_move G _ _ _ (is_below (seats_are G l) z _ c.in_ok-within.ensures).below (is_below (seats_are G l) c.args.moving.0 _ c.in_ok-row.ensures).below n.1)

pub returns : goal.returns
returns c =
    let z = c.args.asking.0 in
    λ G ok e. let l = limits_are G (reach_of G z) e c.limits_of-limits.ensures in
    looked_is G z ok e (is_below (seats_are G l) c.args.moving.0 _ c.in_ok-row.ensures) (is_below (moves_are G l) c.args.choice.0 _ c.in_ok-column.ensures) c.marks_in-reached.ensures
    (is_below (seats_are G l) z _ c.in_ok-within.ensures).below _ c.from.ensures
