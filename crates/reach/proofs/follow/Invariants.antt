-- Each marked atom is done or waits in the queue, and at most 1,024 are visited.
use Prim.Native.Nat.{◌-◌}
use Rattle.edges.proofs.Closing.{Closing}
use Rattle.reach.specs.Steps.{Brings}
use Rattle.reach.proofs.follow.Given as goal

abbrev pub invariant-loop-at : goal.invariant-loop-at
invariant-loop-at l = Closing (Brings l.steps.atoms l.steps.clauses) l.initial.work.marks l.work l.at

abbrev pub decreases-loop-at : goal.decreases-loop-at
decreases-loop-at l = 1024 - l.at
