-- The index knows no atom yet, and takes one more.
use mathlib.Core.Path.{sym, ◌∙◌}
use mathlib.Core.Logic.{inl, inr}
use native.Mathlib.Omega.{arith}
use Rattle.reach.proofs.Indexing.{atoms_start, atoms_skip, atoms_more}
use Rattle.reach.proofs.onward.index_onward.Goals as goal

pub loop-q-init : goal.loop-q-init
loop-q-init c = atoms_start _ _ _ c.requires

pub loop-q-preserved-then-f-lt512 : goal.loop-q-preserved-then-f-lt512
loop-q-preserved-then-f-lt512 c = rw (c.put.ensures.firsts, c.put.ensures.nexts) (atoms_more _ _ _ _ c.requires.columns c.loop-q.invariant c.loop-q-test.true _ c.from-f.ensures (sym c.is_onward.ensures ∙ c.if-is_onward.true) c.if-f-lt512.true)

pub loop-q-preserved : goal.loop-q-preserved
loop-q-preserved c = atoms_skip _ _ _ _ c.requires.columns c.loop-q.invariant c.loop-q-test.true _ c.from-f.ensures (λ on lt. elim c.else-is_onward.either [ inl (t, ge) ↦ omega arith | inr off ↦ cc ])
