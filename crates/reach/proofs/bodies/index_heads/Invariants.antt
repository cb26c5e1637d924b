-- The clauses from c on are indexed.
use Rattle.reach.specs.Bodies.{ClausesFrom}
use Rattle.reach.proofs.bodies.index_heads.Given as goal

abbrev pub invariant-loop-c : goal.invariant-loop-c
invariant-loop-c l = ClausesFrom l.heads l.index.first l.index.next l.c
