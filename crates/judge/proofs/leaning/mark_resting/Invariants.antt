-- The atoms passed have their marks, and the rest have none.
use Rattle.judge.specs.Arrays.{numbers, Sown}
use Rattle.judge.proofs.leaning.mark_resting.Given as goal

abbrev pub invariant-loop-p : goal.invariant-loop-p
invariant-loop-p l = Sown l.kinds (numbers l.those) l.p l.marks
