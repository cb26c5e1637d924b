-- The levels of the atoms stand in the first places, and the others stay 0.
use Rattle.judge.proofs.Numbering.{levels_numbered}
use Rattle.judge.proofs.number_atoms.Goals as goal

pub returns : goal.returns
returns c = levels_numbered _ _ _ c.requires.0 _ c.requires.1 _ _ c.number_levels.ensures
