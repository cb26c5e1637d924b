-- What is left of the pairs is stored further on; nothing is left at the end.
use native.Mathlib.Omega.{arith}
use Rattle.session.proofs.Storing.{pairing_goes}
use Rattle.session.proofs.bytes.write_choices.Goals as goal

pub loop-k-preserved : goal.loop-k-preserved
loop-k-preserved c = pairing_goes _ _ _ _ _ c.loop-k.invariant c.loop-k-test.true c.requires _ (omega arith) _ cc
