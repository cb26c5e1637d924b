-- The index knows no clause yet.
use Rattle.reach.proofs.Indexing.{clauses_start}
use Rattle.reach.proofs.bodies.index_heads.Goals as goal

pub loop-c-init : goal.loop-c-init
loop-c-init c = clauses_start _ _ _ c.requires
