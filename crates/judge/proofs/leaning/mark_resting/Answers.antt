-- No atom has a mark yet; and the closure of the marked ones is what rests on them.
use borrow.Author.Rules.{rules}
use Rattle.judge.proofs.Marking.{sown_start, sown_all, seeds_marked}
use Rattle.judge.proofs.leaning.mark_resting.Goals as goal

pub loop-p-init : goal.loop-p-init
loop-p-init c = search (rules, sown_start)

pub returns : goal.returns
returns c = search (rules, sown_all, seeds_marked)
