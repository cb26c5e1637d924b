-- All clauses of the head are done.
use Rattle.reach.proofs.Bringing.{bodies_done}
use Rattle.reach.proofs.bodies.bring_bodies.Goals as goal

pub returns : goal.returns
returns c = bodies_done c.args.steps.now _ c.requires _ _ _ c.loop-c.invariant c.loop-c-test.false
