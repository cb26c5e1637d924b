-- The count of clauses, the clauses, and nothing after.
use native.Mathlib.Omega.{arith}
use Rattle.std.proofs.lemmas.Result.{err_from_is_err_and}
use Rattle.table.proofs.Whole.{empty_clauses, longer, all_clauses}
use Rattle.table.proofs.tables.read_rest.Goals as goal

pub returns-in_err-read_clauses : goal.returns-in_err-read_clauses
returns-in_err-read_clauses c =
    let p = err_from_is_err_and c.from_residual-in_err-read_clauses.result c.from_residual-in_err-read_clauses.ensures.1 in
    rw (p.1, p.2) (empty_clauses _ _ _ _ _ c.number.new.reader c.read_clauses.new.reader c.number.ensures.same c.in_ok-many.ensures.says _ c.in_err-read_clauses.ensures.says)

pub returns-then-reader : goal.returns-then-reader
returns-then-reader c =
    longer _ _ _ _ _ c.number.new.reader c.read_clauses.new.reader c.number.ensures.same c.in_ok-many.ensures.says c.read_clauses.ensures.same c.in_ok-read_clauses.ensures.says (omega arith)

pub returns : goal.returns
returns c =
    all_clauses _ _ _ _ _ c.number.new.reader c.read_clauses.new.reader c.number.ensures.same c.in_ok-many.ensures.says c.read_clauses.ensures.same c.in_ok-read_clauses.ensures.says (omega arith)
