-- A marked node is pushed, another is passed.
use Rattle.edges.proofs.Marking.{gather_pushable, gather_more, gather_skip}
use Rattle.edges.proofs.worklist.Worklist.gather.Goals as goal
use Rattle.edges.proofs.worklist.Worklist.gather.Goals.{then-self-p-eq1, else-self-p-eq1}

pub push-requires : goal.push-requires
push-requires c = gather_pushable _ _ c.requires.seeded _ _ c.loop-p.invariant c.loop-p-test.true c.if-self-p-eq1.true

pub loop-p-preserved : goal.loop-p-preserved
loop-p-preserved c = elim c.if-self-p-eq1.branch [
  | then-self-p-eq1 w ↦ rw w.self-is (gather_more _ _ c.requires.seeded _ _ c.loop-p.invariant c.loop-p-test.true w.if-self-p-eq1.true _ w.push.ensures)
  | else-self-p-eq1 w ↦ rw w.self-is (gather_skip _ _ c.requires.seeded _ _ c.loop-p.invariant c.loop-p-test.true w.if-self-p-eq1.false)
]
