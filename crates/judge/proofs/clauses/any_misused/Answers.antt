-- The library's `any` over the atoms and their first uses tells whether one is misused.
use Rattle.std.proofs.Common.{rules, tests}
use Rattle.std.proofs.lemmas.Iterator.{YieldsList-from_slice, YieldsList-from_zip}
use Rattle.std.proofs.lemmas.Iterator.Search.{any_from_yields_List}
use Rattle.judge.proofs.Misusing.{misused_pair, any_told}
use Rattle.judge.proofs.clauses.any_misused.Goals as goal

pub returns : goal.returns
returns c =
    any_told c.args.kinds.now c.args.first.now c.args.many (search rules) _
    (any_from_yields_List (misused_pair c.args.many) c.any.new.self _ _ c.any.ensures.ran
    (YieldsList-from_zip (YieldsList-from_slice c.args.kinds.now (search rules)) (YieldsList-from_slice c.args.first.now (search rules))) (λ x b q k. search (rules, tests)))
