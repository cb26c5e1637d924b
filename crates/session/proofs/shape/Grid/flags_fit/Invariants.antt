-- The flags before i passed; each turn passes one or 64 more.
use Prim.Native.Nat.{◌-◌}
use lib.ListN.{length}
use Rattle.session.specs.Shape.{flag_fits, in_grid}
use Rattle.session.proofs.Fits.{Testing}
use Rattle.session.proofs.shape.Grid.flags_fit.Given as goal

abbrev pub invariant-loop-i : goal.invariant-loop-i
invariant-loop-i l = Testing (flag_fits (in_grid l.self.width l.self.rows l.self.columns)) l.flags l.i

abbrev pub decreases-loop-i : goal.decreases-loop-i
decreases-loop-i l = length l.flags - l.i
