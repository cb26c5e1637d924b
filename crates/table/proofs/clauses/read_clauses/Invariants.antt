-- Up to record k the arrays hold the clauses read.
use Rattle.table.proofs.ClauseRecords.{Laying}
use Rattle.table.proofs.clauses.read_clauses.Given as goal

abbrev pub invariant-loop-k : goal.invariant-loop-k
invariant-loop-k l = Laying l.fn.many l.fn.atoms l.initial.reader l.initial.room l.room l.used l.k l.reader
