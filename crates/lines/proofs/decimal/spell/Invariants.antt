-- The invariant: the digits of what is left stand before those already written.
use Rattle.lines.proofs.Spelling.{Spelling}
use Rattle.lines.proofs.decimal.spell.Given as goal

abbrev pub invariant-loop-rest : goal.invariant-loop-rest
invariant-loop-rest l = Spelling l.x l.digits l.at l.rest

abbrev pub decreases-loop-rest : goal.decreases-loop-rest
decreases-loop-rest l = l.rest
