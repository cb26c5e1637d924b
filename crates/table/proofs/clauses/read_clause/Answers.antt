-- A head, a count that leaves room, and the literals.
use native.Mathlib.Omega.{arith}
use Rattle.table.proofs.ClauseRecords.{all_clause}
use Rattle.table.proofs.clauses.read_clause.Goals as goal

pub returns-clause-says : goal.returns-clause-says
returns-clause-says c =
    let head = rw c.from.ensures at c.in_ok-head.ensures.says in
    let count = rw c.number.ensures.same at c.in_ok-count.ensures.says in
    let body = rw (c.from-3.ensures, c.number-2.ensures.same, c.number.ensures.same) at c.in_ok-read_literals.ensures.says in
    all_clause _ _ _ _ _ _ _ head count (omega arith) body
