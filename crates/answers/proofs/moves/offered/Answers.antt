-- The tests of offer in their order, each return by its law, and then the stored choice.
use mathlib.Core.Path.{refl}
use Rattle.gdl.specs.Flags.{blank}
use Rattle.refusals.specs.declared.Refusal.TheVariants.{NoSuchSeat, NoSuchMove}
use Rattle.answers.proofs.Asking.{consults}
use Rattle.answers.proofs.Outcomes.{handed_on, not_below, is_below, seats_are, moves_are, goes, offer_stops}
use Rattle.answers.proofs.Offering.{has_chosen, not_chosen, is_illegal, is_legal_lem}
use Rattle.calls.proofs.Returns.{offer_no_seat, offer_no_move, offer_chosen, offer_illegal, offer_stored}
use Rattle.answers.proofs.moves.offered.Goals as goal

pub returns-in_err-limits : goal.returns-in_err-limits
returns-in_err-limits c = λ G ok e. rw (handed_on _ c.from_residual.ensures.1 _ refl) (offer_stops G c.args.session _ _ (c.in_err-limits.ensures G (blank 8) ok e))

pub returns-in_err-row : goal.returns-in_err-row
returns-in_err-row c =
    λ G ok e. let g = goes G c.args.session (c.in_ok-limits.ensures G (blank 8) ok e) in let n = not_below (seats_are G g.limits) c.args.seat.0 _ c.in_err-row.ensures in
    rw (handed_on _ c.from_residual-in_err-row.ensures.1 NoSuchSeat n.0) (offer_no_seat G _ _ _ g.shape g.on n.1)

pub returns-in_err-column : goal.returns-in_err-column
returns-in_err-column c =
    λ G ok e. let g = goes G c.args.session (c.in_ok-limits.ensures G (blank 8) ok e) in let n = not_below (moves_are G g.limits) c.args.choice.0 _ c.in_err-column.ensures in
    rw (handed_on _ c.from_residual-in_err-column.ensures.1 NoSuchMove n.0)
    (offer_no_move G _ _ _ g.shape g.on (is_below (seats_are G g.limits) c.args.seat.0 _ c.in_ok-row.ensures).below n.1)

pub returns-then-choices-row-ne0 : goal.returns-then-choices-row-ne0
returns-then-choices-row-ne0 c =
    λ G ok e. let g = goes G c.args.session (c.in_ok-limits.ensures G (blank 8) ok e) in let s = is_below (seats_are G g.limits) c.args.seat.0 _ c.in_ok-row.ensures in
    offer_chosen G _ _ _ g.shape g.on s.below (is_below (moves_are G g.limits) c.args.choice.0 _ c.in_ok-column.ensures).below (has_chosen c.args.session s c.if-choices-row-ne0.true)

pub returns-then-legal-row-ne1 : goal.returns-then-legal-row-ne1
returns-then-legal-row-ne1 c =
    λ G ok e. let g = goes G c.args.session (c.in_ok-limits.ensures G (blank 8) ok e) in let s = is_below (seats_are G g.limits) c.args.seat.0 _ c.in_ok-row.ensures in
    let m = is_below (moves_are G g.limits) c.args.choice.0 _ c.in_ok-column.ensures in
    offer_illegal G _ _ _ g.shape g.on s.below m.below (not_chosen c.args.session s c.if-choices-row-ne0.false)
    (is_illegal (consults G _ (blank 8) ok e) c.marks_in-legal.ensures s m c.if-legal-row-ne1.true)

pub returns : goal.returns
returns c =
    λ G ok e. let g = goes G c.args.session (c.in_ok-limits.ensures G (blank 8) ok e) in let s = is_below (seats_are G g.limits) c.args.seat.0 _ c.in_ok-row.ensures in
    let m = is_below (moves_are G g.limits) c.args.choice.0 _ c.in_ok-column.ensures in
    rw s.is
    (offer_stored G _ _ _ g.shape g.on s.below m.below (not_chosen c.args.session s c.if-choices-row-ne0.false)
    (is_legal_lem (consults G _ (blank 8) ok e) c.marks_in-legal.ensures s m c.if-legal-row-ne1.false))
