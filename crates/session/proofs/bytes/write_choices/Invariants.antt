-- What is left of the pairs is stored further on; nothing is left at the end.
use Rattle.session.proofs.Storing.{Pairing}
use Rattle.session.proofs.bytes.write_choices.Given as goal

abbrev pub invariant-loop-k : goal.invariant-loop-k
invariant-loop-k l = Pairing l.initial.room l.at l.choices l.room l.k
