-- The invariant: the digits left make the same value, cut off at 65,536, behind the number so far.
use Rattle.lines.proofs.Valuing.{Valuing}
use Rattle.lines.proofs.decimal.value_up_to.Given as goal

abbrev pub invariant-loop-b : goal.invariant-loop-b
invariant-loop-b l = Valuing l.word l.n l.b-index
