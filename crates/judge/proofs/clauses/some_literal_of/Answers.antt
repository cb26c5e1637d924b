-- Each literal is of an atom that has a kind; the library's `any` is the page's `some`.
use mathlib.Core.Path.{◌∙◌}
use Prim.Native.Nat.{◌/◌, ◌<◌}
use lib.ListN.{length, get_or}
use Rattle.std.proofs.Common.{rules, tests}
use Rattle.std.proofs.lemmas.Iterator.{YieldsList-from_slice}
use Rattle.std.proofs.lemmas.Iterator.Adapters.{serves_from_places}
use Rattle.std.proofs.lemmas.Iterator.Search.{any_from_yields_List}
use Rattle.rules.specs.Rules.{one_of}
use Rattle.judge.specs.Arrays.{numbers}
use Rattle.judge.proofs.Elements.{some_any, literal_in}
use Rattle.judge.proofs.clauses.some_literal_of.Goals as goal

pub any-requires : goal.any-requires
any-requires c = record { can = search rules; finite = search rules; callable = serves_from_places (YieldsList-from_slice c.args.literals.now c.iter.ensures.rest) (λ x q k. search rules) (λ x k lt e. let h : x.now / 2 < length c.args.kinds.now = literal_in _ _ c.requires k lt x.now e in search (rules, tests)) }

pub returns : goal.returns
returns c =
    any_from_yields_List (λ x. one_of (numbers c.args.these.now) (get_or c.args.kinds.now (x / 2) 0)) _ _ _ c.any.ensures.ran
    (YieldsList-from_slice c.args.literals.now c.iter.ensures.rest) (λ x b q k. search (rules, tests))
    ∙ some_any (λ x. one_of (numbers c.args.these.now) (get_or c.args.kinds.now (x / 2) 0)) c.args.literals.now
