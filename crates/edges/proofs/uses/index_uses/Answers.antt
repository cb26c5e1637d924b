-- The index knows no use yet.
use Rattle.edges.proofs.Indexing.{index_starts}
use Rattle.edges.proofs.uses.index_uses.Goals as goal

pub loop-k-init : goal.loop-k-init
loop-k-init c = index_starts _ _ _ c.requires
