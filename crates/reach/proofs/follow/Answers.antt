-- The queue has at most 1,024 atoms.
use native.Mathlib.Omega.{arith}
use Rattle.edges.proofs.Closing.{queue_few, closing_less}
use Rattle.reach.proofs.Reached.{follow_visit}
use Rattle.reach.proofs.follow.Goals as goal

pub overflow_add-at : goal.overflow_add-at
overflow_add-at c = omega (arith, queue_few c.loop-at.work.queued)

pub visit-requires : goal.visit-requires
visit-requires c = follow_visit c.args.steps.now _ c.requires _ _ c.loop-at.invariant c.loop-at-test.true

pub loop-at-smaller : goal.loop-at-smaller
loop-at-smaller c = closing_less _ _ _ _ c.loop-at.invariant c.loop-at-test.true
