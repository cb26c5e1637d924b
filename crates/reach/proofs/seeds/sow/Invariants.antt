-- The atoms passed have their marks, and the rest have none.
use Rattle.reach.specs.Seeds.{Sown}
use Rattle.reach.proofs.seeds.sow.Given as goal

abbrev pub invariant-loop-p : goal.invariant-loop-p
invariant-loop-p l = Sown l.atoms l.seat l.p l.work
