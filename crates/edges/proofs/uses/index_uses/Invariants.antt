-- The uses from edge k on are indexed.
use Rattle.edges.specs.Uses.{EdgesFrom}
use Rattle.edges.proofs.uses.index_uses.Given as goal

abbrev pub invariant-loop-k : goal.invariant-loop-k
invariant-loop-k l = EdgesFrom l.to l.uses.first l.uses.next l.k
