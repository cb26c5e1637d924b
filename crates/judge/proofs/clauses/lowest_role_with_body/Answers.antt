-- The library's `find` over the clauses finds the lowest that the test strikes.
use mathlib.Core.Path.{refl}
use Rattle.std.proofs.Common.{rules, tests}
use Rattle.judge.specs.Arrays.{role_with_body}
use Rattle.judge.proofs.Searching.{find_lowest}
use Rattle.judge.proofs.Breaking.{role_told}
use Rattle.judge.proofs.clauses.lowest_role_with_body.Goals as goal

pub returns : goal.returns
returns c =
    find_lowest _ _ (role_with_body c.args.atoms.now c.args.clauses.now) _ _ _ _ (role_told _ _) refl c.find.ensures.ran (λ x b q h. search (rules, tests))
