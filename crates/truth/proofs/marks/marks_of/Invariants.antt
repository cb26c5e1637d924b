-- Up to atom i the marks are those of the atoms passed.
use Rattle.gdl.specs.Kinds.{kind_number}
use Rattle.truth.proofs.Marked.{Marked}
use Rattle.truth.proofs.marks.marks_of.Given as goal

abbrev pub invariant-loop-i : goal.invariant-loop-i
invariant-loop-i l = Marked l.atoms.kinds.now l.atoms.firsts.now l.atoms.seconds.now l.flags (kind_number l.kind) l.width l.marks l.i
