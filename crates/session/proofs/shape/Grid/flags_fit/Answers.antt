-- The flags before i passed; each turn passes one or 64 more.
use Rattle.session.proofs.Fits.{testing_jumps}
use Rattle.session.proofs.shape.Grid.flags_fit.Goals as goal

pub loop-i-preserved : goal.loop-i-preserved
loop-i-preserved c = testing_jumps _ _ _ c.loop-i.invariant _ c.in-Some.ensures
