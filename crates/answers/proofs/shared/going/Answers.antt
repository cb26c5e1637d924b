-- The record's shape and the end, of the game that was consulted.
use Rattle.gdl.specs.Computed.{model}
use Rattle.answers.proofs.Asking.{limits_are, consults}
use Rattle.answers.proofs.Offering.{is_over, goes_on_lem}
use Rattle.answers.proofs.Outcomes.{going_unshaped, going_over, going_on}
use Rattle.answers.proofs.shared.going.Goals as goal

pub returns-then-not-shaped : goal.returns-then-not-shaped
returns-then-not-shaped c =
    let σ = c.args.session in
    λ G choices ok e. going_unshaped G σ (limits_are G (model G σ.position choices) e c.limits_of-limits.ensures) c.shaped.ensures c.if-not-shaped.true

pub returns-then-ends-eq1 : goal.returns-then-ends-eq1
returns-then-ends-eq1 c =
    let σ = c.args.session in
    λ G choices ok e. going_over G σ (limits_are G (model G σ.position choices) e c.limits_of-limits.ensures) c.shaped.ensures c.if-not-shaped.false
    (is_over (consults G σ.position choices ok e) c.marks_in-ends.ensures c.if-ends-eq1.true)

pub returns : goal.returns
returns c =
    let σ = c.args.session in
    λ G choices ok e. going_on G σ (limits_are G (model G σ.position choices) e c.limits_of-limits.ensures) c.shaped.ensures c.if-not-shaped.false
    (goes_on_lem (consults G σ.position choices ok e) c.marks_in-ends.ensures c.if-ends-eq1.false)
