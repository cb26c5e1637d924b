-- The atoms of the body so far are marked.
use Prim.Native.Nat.{◌+◌}
use Rattle.reach.proofs.Bringing.{BodyBrought}
use Rattle.reach.proofs.bodies.bring_body.Given as goal

abbrev pub invariant-loop-literal : goal.invariant-loop-literal
invariant-loop-literal l = BodyBrought l.steps.clauses l.c l.initial.work l.work (l.start + l.literal-index)
