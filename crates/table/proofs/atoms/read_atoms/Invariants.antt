-- Up to record k the arrays hold the atoms read, each above the one before.
use Rattle.table.proofs.AtomRecords.{Reading}
use Rattle.table.proofs.atoms.read_atoms.Given as goal

abbrev pub invariant-loop-k : goal.invariant-loop-k
invariant-loop-k l = Reading l.fn.h l.fn.h.sizes.atoms l.initial.reader l.initial.room l.room l.k l.least l.reader
