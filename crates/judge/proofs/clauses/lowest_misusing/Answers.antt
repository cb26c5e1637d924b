-- Where an atom is used wrongly the clauses are searched, and else no clause breaks the rule.
use mathlib.Core.Path.{refl}
use Rattle.std.proofs.Common.{rules, tests}
use Rattle.judge.specs.Arrays.{never_in_body}
use Rattle.judge.proofs.Searching.{find_lowest}
use Rattle.judge.proofs.Breaking.{body_told}
use Rattle.judge.proofs.Misusing.{none_misused}
use Rattle.judge.proofs.clauses.lowest_misusing.Goals as goal

pub returns-then-any_misused : goal.returns-then-any_misused
returns-then-any_misused c =
    find_lowest _ _ (never_in_body c.args.atoms.now c.args.clauses.now) _ _ _ _ (λ G h. body_told _ _ G h.clauses) refl c.find.ensures.ran
    (λ x b q h. search (rules, tests))

pub returns : goal.returns
returns c = none_misused _ _ c.args.edges.now c.requires c.if-any_misused.ensures
