-- One atom more of the body is marked.
use mathlib.Core.Path.{◌≡◌, ap, ◌∙◌}
use Prim.Native.Nat.{ℕ, ◌+◌, ◌/◌, ◌<◌}
use native.Mathlib.Omega.{arith}
use Rattle.reach.proofs.Bringing.{part_at, part_within, body_more}
use Rattle.reach.proofs.bodies.bring_body.Goals as goal

pub loop-literal-preserved : goal.loop-literal-preserved
loop-literal-preserved c =
    let i : ℕ = c.loop-literal.literal-index in
    let literals = c.args.steps.now.clauses.literals.now in
    let start : ℕ = c.from-start.result in
    let next : start + (i + 1) ≡ start + i + 1 = omega arith in
    let here : start + i < c.from-end.result = part_within literals start c.from-end.result i c.loop-literal-test.true in
    rw next (body_more c.args.steps.now _ c.requires _ _ (start + i) _ c.loop-literal.invariant c.from-end.ensures here _ (c.from-h.ensures ∙ ap (λ (y : ℕ). y / 2) (part_at literals start c.from-end.result i c.loop-literal-test.true)) _ c.mark.ensures)
