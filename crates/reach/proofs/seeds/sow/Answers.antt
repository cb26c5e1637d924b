-- A seed is marked, another atom is passed.
use mathlib.Core.Path.{sym, ◌∙◌}
use Rattle.reach.proofs.Seeding.{sow_starts, sow_mark, sow_pass}
use Rattle.reach.proofs.seeds.sow.Goals as goal
use Rattle.reach.proofs.seeds.sow.Goals.{then-is_seed, else-is_seed}

pub loop-p-init : goal.loop-p-init
loop-p-init c = sow_starts _ _ _ c.requires

pub loop-p-preserved : goal.loop-p-preserved
loop-p-preserved c = elim c.if-is_seed.branch [
  | then-is_seed w ↦ rw w.work-is (sow_mark _ _ _ _ c.loop-p.invariant c.requires.columns c.loop-p-test.true (sym c.is_seed.ensures ∙ w.if-is_seed.true) _ w.mark.ensures)
  | else-is_seed w ↦ rw w.work-is (sow_pass _ _ _ _ c.loop-p.invariant c.requires.columns c.loop-p-test.true (sym c.is_seed.ensures ∙ w.if-is_seed.false))
]
