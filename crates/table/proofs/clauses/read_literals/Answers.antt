-- Up to literal k the room holds the literals read.
use native.Mathlib.Omega.{arith}
use Rattle.std.proofs.lemmas.Result.{err_from_is_err_and}
use Rattle.table.proofs.ClauseRecords.{filling_fault}
use Rattle.table.proofs.clauses.read_literals.Goals as goal

pub returns-in_err-room-clause-says : goal.returns-in_err-room-clause-says
returns-in_err-room-clause-says c =
    let p = err_from_is_err_and c.from_residual.result c.from_residual.ensures.1 in
    rw (p.1, p.2) (filling_fault c.loop-k.invariant (omega arith) _ c.in_err-room.ensures.says)
