-- A marked atom of these kinds is none of those, so it depends on one; the library's `find` finds the lowest.
use mathlib.Core.Path.{refl}
use mathlib.Core.Bool.{◌&&◌}
use lib.ListN.{get_or}
use Rattle.std.proofs.Common.{rules, tests}
use Rattle.edges.specs.Queue.{no_marks}
use Rattle.gdl.specs.Flags.{on}
use Rattle.rules.specs.Rules.{one_of}
use Rattle.judge.specs.Arrays.{numbers}
use Rattle.judge.proofs.Searching.{find_lowest}
use Rattle.judge.proofs.Marking.{lean_told}
use Rattle.judge.proofs.leaning.lowest_leaning.Goals as goal

pub mark_resting-requires : goal.mark_resting-requires
unfolding no_marks
mark_resting-requires c = search rules

pub returns : goal.returns
returns c =
    find_lowest _ _ (λ p. one_of (numbers c.args.these.now) (get_or c.args.kinds.now p 0) && on c.mark_resting.new.marks p) _ _ _ _
    (lean_told _ _ _ _ _ _ c.requires.1 c.mark_resting.ensures) refl c.find.ensures.ran (λ x b q h. search (rules, tests))
