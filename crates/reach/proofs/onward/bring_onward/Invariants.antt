-- The atoms of the fluent before q are marked, and each next one has a higher number.
use Prim.Native.Nat.{◌-◌}
use lib.ListN.{length}
use Rattle.reach.proofs.Bringing.{OnwardBrought}
use Rattle.reach.proofs.onward.bring_onward.Given as goal

abbrev pub invariant-loop-q : goal.invariant-loop-q
invariant-loop-q l = OnwardBrought l.steps.atoms l.p l.initial.work l.work l.f l.q

abbrev pub decreases-loop-q : goal.decreases-loop-q
decreases-loop-q l = length l.steps.atoms.kinds.now - l.q
