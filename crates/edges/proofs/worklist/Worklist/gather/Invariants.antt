-- The marked nodes below p are queued, and nothing else.
use Rattle.edges.specs.Marks.{Gathered}
use Rattle.edges.proofs.worklist.Worklist.gather.Given as goal

abbrev pub invariant-loop-p : goal.invariant-loop-p
invariant-loop-p l = Gathered l.initial.self.marks l.self l.p
