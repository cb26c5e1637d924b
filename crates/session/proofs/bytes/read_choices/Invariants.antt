-- What is left of the pairs is stored further on; at the start that is all of them, over a blank array of their number.
use Rattle.session.proofs.Recalling.{Choosing}
use Rattle.session.proofs.bytes.read_choices.Given as goal

abbrev pub invariant-loop-k : goal.invariant-loop-k
invariant-loop-k l = Choosing l.bytes l.at l.choices l.k
