-- The library's `any` is the page's `some`.
use mathlib.Core.Path.{◌∙◌}
use lib.Dec.{eqb}
use Rattle.std.proofs.Common.{rules, tests}
use Rattle.std.proofs.lemmas.Iterator.{YieldsList-from_slice}
use Rattle.std.proofs.lemmas.Iterator.Search.{any_from_yields_List}
use Rattle.gdl.specs.Kinds.{kind_number}
use Rattle.judge.proofs.Elements.{some_map}
use Rattle.judge.proofs.kinds.one_of.Goals as goal

pub returns : goal.returns
returns c =
    any_from_yields_List (λ k. eqb c.args.kind (kind_number k)) _ _ _ c.any.ensures.ran (YieldsList-from_slice c.args.these.now c.iter.ensures.rest) (λ x b q k. search (rules, tests))
    ∙ some_map (eqb c.args.kind) kind_number c.args.these.now
