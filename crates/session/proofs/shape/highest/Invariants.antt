-- None of the flags passed is above the highest.
use Rattle.session.specs.Runs.{Bounds}
use Rattle.session.proofs.shape.highest.Given as goal

abbrev pub invariant-loop-flag : goal.invariant-loop-flag
invariant-loop-flag l = Bounds l.flags l.flag-index l.top
