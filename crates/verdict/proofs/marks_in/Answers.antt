-- What was found is the game, so the part of its atoms in use is the game's own.
use Rattle.verdict.proofs.Marks.{few_atoms, marking, marks_are}
use Rattle.verdict.proofs.marks_in.Goals as goal

pub used_atoms-atoms-requires : goal.used_atoms-atoms-requires
used_atoms-atoms-requires c = few_atoms c.requires.0

pub marks_of-requires : goal.marks_of-requires
marks_of-requires c =
    let fit = c.requires.0 in
    marking _ fit.game fit.flags fit.is fit.few c.used_atoms-atoms.ensures c.requires.1

pub returns : goal.returns
returns c = λ G X e few. marks_are _ G X e few c.used_atoms-atoms.ensures _ _ _ c.marks_of.ensures
