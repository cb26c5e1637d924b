-- The queue has at most 1,024 nodes.
use native.Mathlib.Omega.{arith}
use Rattle.edges.proofs.Closing.{queue_few, closing_less}
use Rattle.edges.proofs.marks.close_back.Goals as goal

pub overflow_add-at : goal.overflow_add-at
overflow_add-at c = omega (arith, queue_few c.loop-at.work.queued)

pub loop-at-smaller : goal.loop-at-smaller
loop-at-smaller c = closing_less _ _ _ _ c.loop-at.invariant c.loop-at-test.true
