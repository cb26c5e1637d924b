-- The queue has one more node, which is marked.
use Rattle.edges.proofs.Marking.{push_queue}
use Rattle.edges.proofs.worklist.Worklist.push.Goals as goal

pub invariant_of-self : goal.invariant_of-self
invariant_of-self c = record { queued = push_queue _ _ c.requires }
