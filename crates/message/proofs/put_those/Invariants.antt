-- Up to flag i the numbers of the flags passed are written.
use Rattle.message.proofs.Lists.{Putting}
use Rattle.message.proofs.put_those.Given as goal

abbrev pub invariant-loop-i : goal.invariant-loop-i
invariant-loop-i l = Putting l.flags l.at l.initial.room l.room l.next l.i
