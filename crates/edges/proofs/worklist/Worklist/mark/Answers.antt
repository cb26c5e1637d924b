-- A node that is not marked leaves room in the queue.
use Rattle.edges.proofs.Marking.{mark_queue, mark_here, mark_room}
use Rattle.edges.proofs.worklist.Worklist.mark.Goals as goal

pub invariant_of-self : goal.invariant_of-self
invariant_of-self c = record { queued = mark_queue _ _ _ _ c.args.self.now.queued c.requires c.if-self-h-eq1.false }

pub push-requires : goal.push-requires
push-requires c = record {
  node = c.requires;
  marked = mark_here _ _ _ _ c.args.self.now.queued c.requires;
  room = mark_room _ _ _ _ c.args.self.now.queued c.requires c.if-self-h-eq1.false;
}
