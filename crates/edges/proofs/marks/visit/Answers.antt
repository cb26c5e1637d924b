-- The uses of the node below k are done, and each next use has a higher number.
use Rattle.edges.proofs.Closing.{turn_place, turn_scaled}
use Rattle.edges.proofs.Visiting.{visiting_more, visiting_done}
use Rattle.edges.proofs.marks.visit.Goals as goal

pub offset_bounds-work-at : goal.offset_bounds-work-at
offset_bounds-work-at c = turn_scaled _ _ _ c.requires

pub bounds-work-at : goal.bounds-work-at
bounds-work-at c = turn_place _ _ _ c.requires

pub loop-k-preserved : goal.loop-k-preserved
loop-k-preserved c = visiting_more _ _ _ c.requires _ c.from-p.ensures _ _ c.loop-k.invariant c.loop-k-test.true _ c.from-h.ensures _ c.mark.ensures _ c.from-k-in-loop-k.ensures

pub returns : goal.returns
returns c = visiting_done _ _ _ c.requires _ c.from-p.ensures _ _ c.loop-k.invariant c.loop-k-test.false
