-- A kind and its two fields.
use borrow.Author.Rules.{rules}
use Rattle.table.specs.Table.{atom}
use Rattle.table.proofs.Readers.{first_read, second_read}
use Rattle.table.proofs.atoms.read_atom.Goals as goal

pub returns-in_err-first-clause-says : goal.returns-in_err-first-clause-says
unfolding atom
returns-in_err-first-clause-says c = λ h w.
    let first = first_read h _ _ w _ _ _ _ c.from.ensures _ c.in_err-first.ensures.says in
    search (rules, first)

pub returns-in_err-second-clause-says : goal.returns-in_err-second-clause-says
unfolding atom
returns-in_err-second-clause-says c = λ h w.
    let first = first_read h _ _ w _ _ _ _ c.from.ensures _ c.in_ok-first.ensures.says in
    let second = second_read h _ _ w _ _ _ _ c.from-2.ensures _ c.in_err-second.ensures.says in
    search (rules, first, second)

pub returns-clause-says : goal.returns-clause-says
unfolding atom
returns-clause-says c = λ h w.
    let first = first_read h _ _ w _ _ _ _ c.from.ensures _ c.in_ok-first.ensures.says in
    let second = second_read h _ _ w _ _ _ _ c.from-2.ensures _ c.in_ok-second.ensures.says in
    search (rules, first, second)
