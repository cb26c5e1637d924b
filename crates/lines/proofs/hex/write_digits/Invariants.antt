-- The invariant: storing the digits of what is left gives the whole.
use Rattle.lines.proofs.Pairing.{Encoding}
use Rattle.lines.proofs.hex.write_digits.Given as goal

abbrev pub invariant-loop-k : goal.invariant-loop-k
invariant-loop-k l = Encoding l.bytes l.initial.room l.at l.room l.k
