-- The tests of message in their order, and then the message written.
use mathlib.Core.Path.{sym, ◌∙◌}
use native.Mathlib.Omega.{arith}
use lib.ListN.{length}
use borrow.Author.Tests.{lt-ltb}
use Rattle.gdl.specs.Flags.{blank}
use Rattle.gdl.specs.Computed.{model}
use Rattle.refusals.specs.declared.Refusal.TheVariants.{NoSuchSeat}
use Rattle.answers.proofs.Asking.{limits_are, consults}
use Rattle.answers.proofs.Outcomes.{handed_on, not_below, is_below, seats_are}
use Rattle.answers.proofs.Sending.{round_fits, message_sent}
use Rattle.calls.proofs.Returns.{message_bad_shape, message_no_seat, message_no_room}
use Rattle.answers.proofs.tells.told.Goals as goal

pub returns-then-not-shaped : goal.returns-then-not-shaped
returns-then-not-shaped c =
    let σ = c.args.session in
    λ G ok e. let l = limits_are G (model G σ.position (blank 8)) e c.limits_of-limits.ensures in
    message_bad_shape G σ _ _ (sym (c.shaped.ensures G l) ∙ c.if-not-shaped.true)

pub returns-in_err-within : goal.returns-in_err-within
returns-in_err-within c =
    let σ = c.args.session in
    λ G ok e. let l = limits_are G (model G σ.position (blank 8)) e c.limits_of-limits.ensures in
    let n = not_below (seats_are G l) c.args.seat.0 _ c.in_err-within.ensures in
    rw (handed_on _ c.from_residual.ensures.1 NoSuchSeat n.0) (message_no_seat G σ _ _ (sym (c.shaped.ensures G l) ∙ c.if-not-shaped.false) n.1)

pub returns-then-room-lt1024 : goal.returns-then-room-lt1024
returns-then-room-lt1024 c =
    let σ = c.args.session in
    λ G ok e. let l = limits_are G (model G σ.position (blank 8)) e c.limits_of-limits.ensures in
    message_no_room G σ _ _ (sym (c.shaped.ensures G l) ∙ c.if-not-shaped.false) (is_below (seats_are G l) c.args.seat.0 _ c.in_ok-within.ensures).below
    (lt-ltb (length c.args.room.now) 1024 c.if-room-lt1024.true)

pub overflow_cast-sheet : goal.overflow_cast-sheet
overflow_cast-sheet c =
    let σ = c.args.session in
    let r = c.requires in
    let l = limits_are r.game (model r.game σ.position (blank 8)) r.is c.limits_of-limits.ensures in
    omega (arith, round_fits r.game σ (sym (c.shaped.ensures r.game l) ∙ c.if-not-shaped.false))

pub returns : goal.returns
returns c =
    let σ = c.args.session in
    λ G ok e. let l = limits_are G (model G σ.position (blank 8)) e c.limits_of-limits.ensures in
    message_sent G σ l (consults G σ.position (blank 8) ok e) (is_below (seats_are G l) c.args.seat.0 _ c.in_ok-within.ensures) c.marks_in-ends.ensures c.marks_in-legal.ensures c.marks_in-goals.ensures
    c.args.room.now _ _ (sym (c.shaped.ensures G l) ∙ c.if-not-shaped.false) c.if-room-lt1024.false c.write_message.ensures
