-- Up to record k the arrays hold the clauses read.
use borrow.Author.Rules.{rules}
use native.Mathlib.Omega.{arith}
use Rattle.std.proofs.lemmas.Result.{err_from_is_err_and}
use Rattle.table.proofs.ClauseRecords.{laying_starts, laying_fault, few, laying_more, laying_done}
use Rattle.table.proofs.clauses.read_clauses.Goals as goal

pub loop-k-init : goal.loop-k-init
loop-k-init c = laying_starts (search rules)

pub returns-in_err-c-clause-says : goal.returns-in_err-c-clause-says
returns-in_err-c-clause-says c =
    let p = err_from_is_err_and c.from_residual.result c.from_residual.ensures.1 in
    rw (p.1, p.2) (laying_fault c.loop-k.invariant (omega arith) _ _ _ _ c.in_err-c.ensures.says)

pub slice_bounds-fill-end : goal.slice_bounds-fill-end
slice_bounds-fill-end c =
    let f = few c.loop-k.invariant (omega arith) _ c.read_clause.new.reader _ c.in_ok-c.ensures.says in
    search (rules, f)

pub loop-k-preserved : goal.loop-k-preserved
loop-k-preserved c =
    laying_more c.loop-k.invariant (omega arith) _ c.read_clause.new.reader _ c.in_ok-c.ensures.says _ _ _ c.read_clause.ensures.same c.from-count.ensures (omega arith) (c.fill.ensures.after λ _ e. e)

pub returns-clause-says : goal.returns-clause-says
returns-clause-says c = rw c.from-n.ensures (laying_done c.loop-k.invariant (omega arith))
