-- The arrays hold a game, so they can be read and indexed; the closure from its seeds is its reach, and that of every game that the arrays hold.
use mathlib.Core.Path.{refl}
use borrow.Author.Rules.{rules}
use Rattle.edges.specs.Queue.{no_marks}
use Rattle.edges.proofs.Marking.{queue_blank}
use Rattle.reach.specs.Bodies.{no_clauses, no_more_clauses}
use Rattle.reach.specs.Onward.{no_atoms, no_more_atoms}
use Rattle.reach.proofs.Reached.{reach_unsown, reach_heads, reach_atoms, reach_indexed, reach_reached}
use Rattle.reach.proofs.reach_of.Goals as goal

pub invariant_of-work : goal.invariant_of-work
unfolding no_marks
invariant_of-work c = record { queued = queue_blank }

pub sow-requires : goal.sow-requires
unfolding no_marks
sow-requires c = reach_unsown _ _ c.requires _ refl

pub index_heads-requires : goal.index_heads-requires
unfolding no_clauses no_more_clauses
index_heads-requires c = reach_heads _ _ c.requires _ _ (search rules) (search rules)

pub index_onward-requires : goal.index_onward-requires
unfolding no_atoms no_more_atoms
index_onward-requires c = reach_atoms _ _ c.requires _ _ (search rules) (search rules)

pub returns : goal.returns
returns c = reach_reached _ _ c.requires _ _ c.sow.ensures _ c.follow.ensures

pub invariant_of-steps : goal.invariant_of-steps
invariant_of-steps c = record { indexed = reach_indexed _ _ c.requires _ _ _ _ c.index_heads.ensures c.index_onward.ensures }
