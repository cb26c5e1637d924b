-- The atoms from q on are indexed.
use Rattle.reach.specs.Onward.{AtomsFrom}
use Rattle.reach.proofs.onward.index_onward.Given as goal

abbrev pub invariant-loop-q : goal.invariant-loop-q
invariant-loop-q l = AtomsFrom l.atoms l.index.first l.index.next l.q
