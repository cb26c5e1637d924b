-- What is left of the pairs is stored further on; at the start that is all of them, over a blank array of their number.
use Rattle.session.proofs.Recalling.{choosing_goes}
use Rattle.session.proofs.bytes.read_choices.Goals as goal

pub loop-k-preserved : goal.loop-k-preserved
loop-k-preserved c = choosing_goes _ _ _ _ c.loop-k.invariant c.loop-k-test.true c.requires _ c.from_le_bytes.ensures
