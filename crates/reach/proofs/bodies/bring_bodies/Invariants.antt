-- The clauses of the head before c are done, and each next one has a higher number.
use Prim.Native.Nat.{◌-◌}
use lib.ListN.{length}
use Rattle.reach.proofs.Bringing.{BodiesBrought}
use Rattle.reach.proofs.bodies.bring_bodies.Given as goal

abbrev pub invariant-loop-c : goal.invariant-loop-c
invariant-loop-c l = BodiesBrought l.steps.clauses l.p l.initial.work l.work l.c

abbrev pub decreases-loop-c : goal.decreases-loop-c
decreases-loop-c l = length l.steps.clauses.heads.now - l.c
