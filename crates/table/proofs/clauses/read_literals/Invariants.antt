-- Up to literal k the room holds the literals read.
use Rattle.table.proofs.ClauseRecords.{Filling}
use Rattle.table.proofs.clauses.read_literals.Given as goal

abbrev pub invariant-loop-k : goal.invariant-loop-k
invariant-loop-k l = Filling l.fn.count l.fn.end l.initial.reader l.initial.room l.fn.used l.room l.k l.reader
