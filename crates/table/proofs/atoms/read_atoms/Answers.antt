-- Up to record k the arrays hold the atoms read, each above the one before.
use borrow.Author.Rules.{rules}
use native.Mathlib.Omega.{arith}
use Rattle.std.proofs.lemmas.Result.{err_from_is_err_and}
use Rattle.table.proofs.Readers.{both_ends}
use Rattle.table.proofs.AtomRecords.{reading_fault, reading_low, reading_done}
use Rattle.table.proofs.atoms.read_atoms.Goals as goal

pub returns-in_err-a-clause-says : goal.returns-in_err-a-clause-says
returns-in_err-a-clause-says c =
    let read = c.in_err-a.ensures.says c.args.h (both_ends c.args.h _ _ c.first_ends-first_ends.ensures c.second_ends-second_ends.ensures) in
    let p = err_from_is_err_and c.from_residual.result c.from_residual.ensures.1 in
    rw (p.1, p.2) (reading_fault c.loop-k.invariant (omega arith) _ read)

pub returns-then-place-least-clause-says : goal.returns-then-place-least-clause-says
returns-then-place-least-clause-says c =
    let read = c.in_ok-a.ensures.says c.args.h (both_ends c.args.h _ _ c.first_ends-first_ends.ensures c.second_ends-second_ends.ensures) in
    reading_low c.loop-k.invariant (omega arith) c.read_atom.new.reader read (search rules)

pub returns-clause-says : goal.returns-clause-says
returns-clause-says c = reading_done c.loop-k.invariant (omega arith)
