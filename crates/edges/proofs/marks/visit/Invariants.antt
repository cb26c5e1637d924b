-- The uses of the node below k are done, and each next use has a higher number.
use Prim.Native.Nat.{◌-◌}
use lib.ListN.{length}
use Rattle.edges.proofs.Visiting.{Visiting}
use Rattle.edges.proofs.marks.visit.Given as goal

abbrev pub invariant-loop-k : goal.invariant-loop-k
invariant-loop-k l = Visiting l.edges l.initial.work l.work l.p l.k

abbrev pub decreases-loop-k : goal.decreases-loop-k
decreases-loop-k l = length l.edges.to.now - l.k
