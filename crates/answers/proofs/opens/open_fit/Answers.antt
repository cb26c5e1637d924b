-- A position from the marks of the init atoms, and a record with nothing else in it.
use mathlib.Core.Path.{refl}
use Rattle.answers.proofs.Opening.{open_answered}
use Rattle.answers.proofs.opens.open_fit.Goals as goal

pub returns : goal.returns
returns c = λ G ok e. open_answered G ok e c.marks_in-marks.ensures c.first_marks.ensures refl refl
