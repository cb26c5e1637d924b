-- The next of the fluent's atoms is marked.
use mathlib.Core.Path.{◌∙◌}
use Rattle.reach.proofs.Bringing.{onward_more}
use Rattle.reach.proofs.onward.bring_onward.Goals as goal

pub loop-q-preserved : goal.loop-q-preserved
loop-q-preserved c = onward_more c.args.steps.now _ c.requires _ (c.if-steps-p.false ∙ c.number.ensures) _ c.from-f.ensures _ _ c.loop-q.invariant c.loop-q-test.true _ c.from-q-in-loop-q.ensures _ c.mark.ensures
