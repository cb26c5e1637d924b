-- Each marked node is done or waits in the queue, and at most 1,024 are visited.
use Prim.Native.Nat.{◌-◌}
use Rattle.edges.specs.Closure.{Back}
use Rattle.edges.proofs.Closing.{Closing}
use Rattle.edges.proofs.marks.close_back.Given as goal

abbrev pub invariant-loop-at : goal.invariant-loop-at
invariant-loop-at l = Closing (Back l.edges.from.now l.edges.to.now) l.fn.marks l.work l.at

abbrev pub decreases-loop-at : goal.decreases-loop-at
decreases-loop-at l = 1024 - l.at
