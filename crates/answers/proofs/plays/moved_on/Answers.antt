-- The tests of play in their order, each return by its law, and then the record moved on.
use mathlib.Core.Path.{refl, ap, ◌∙◌}
use native.Mathlib.Omega.{arith}
use borrow.Author.Tests.{eq-eqb, ne_eqb}
use Rattle.refusals.specs.declared.Refusal.TheVariants.{Success}
use Rattle.session.specs.declared.Session.{Session}
use Rattle.answers.proofs.Asking.{consults}
use Rattle.answers.proofs.Outcomes.{handed_on, goes, play_stops}
use Rattle.answers.proofs.Sending.{round_fits}
use Rattle.answers.proofs.Playing.{all_chose, one_lacks, none_lacks, one_illegal, none_illegal, record_is}
use Rattle.calls.proofs.Returns.{play_no_choice, play_illegal, play_last, play_done}
use Rattle.answers.proofs.plays.moved_on.Goals as goal

pub returns-in_err-limits : goal.returns-in_err-limits
returns-in_err-limits c = let σ = c.args.session.now in λ G ok e. rw (handed_on _ c.from_residual.ensures.1 _ refl) (play_stops G σ (c.in_err-limits.ensures G σ.choices ok e))

pub returns-in-Some : goal.returns-in-Some
returns-in-Some c =
    let σ = c.args.session.now in
    λ G ok e. let g = goes G σ (c.in_ok-limits.ensures G σ.choices ok e) in play_no_choice G σ g.shape g.on _ (one_lacks G σ g ok c.in-Some.ensures)

pub first_illegal-requires : goal.first_illegal-requires
first_illegal-requires c =
    let σ = c.args.session.now in
    let r = c.requires in
    all_chose r.game σ (goes r.game σ (c.in_ok-limits.ensures r.game σ.choices r.accepted r.is)) r.accepted c.in_default.ensures

pub returns-in-Some-first_illegal : goal.returns-in-Some-first_illegal
returns-in-Some-first_illegal c =
    let σ = c.args.session.now in
    λ G ok e. let g = goes G σ (c.in_ok-limits.ensures G σ.choices ok e) in
    play_illegal G σ g.shape g.on (none_lacks G σ g ok c.in_default.ensures) _
    (one_illegal G σ g ok c.in_default.ensures (consults G σ.position σ.choices ok e) c.marks_in-legal.ensures c.in-Some-first_illegal.ensures)

pub returns-then-session-eq65535 : goal.returns-then-session-eq65535
returns-then-session-eq65535 c =
    let σ = c.args.session.now in
    λ G ok e. let g = goes G σ (c.in_ok-limits.ensures G σ.choices ok e) in
    play_last G σ g.shape g.on (none_lacks G σ g ok c.in_default.ensures)
    (none_illegal G σ g ok c.in_default.ensures (consults G σ.position σ.choices ok e) c.marks_in-legal.ensures c.in_default-first_illegal.ensures)
    (eq-eqb σ.round 65535 c.if-session-eq65535.true)

pub overflow_add-session : goal.overflow_add-session
overflow_add-session c =
    let σ = c.args.session.now in
    let r = c.requires in
    omega (arith, round_fits r.game σ (goes r.game σ (c.in_ok-limits.ensures r.game σ.choices r.accepted r.is)).shape)

pub returns : goal.returns
returns c =
    let σ = c.args.session.now in
    λ G ok e. let g = goes G σ (c.in_ok-limits.ensures G σ.choices ok e) in
    ap (λ (x : Session). record { refusal = Success; session = x }) (record_is G ok σ e c.marks_in-nexts.ensures c.first_marks-session.ensures refl c.marks_in-session.ensures)
    ∙ play_done G σ g.shape g.on (none_lacks G σ g ok c.in_default.ensures)
    (none_illegal G σ g ok c.in_default.ensures (consults G σ.position σ.choices ok e) c.marks_in-legal.ensures c.in_default-first_illegal.ensures)
    (ne_eqb σ.round 65535 c.if-session-eq65535.false)
