-- What the fluent brings in joined, then what the bodies bring in; so the atom is done.
use native.Mathlib.Omega.{arith}
use Rattle.reach.proofs.Reached.{visit_place, visit_done}
use Rattle.reach.proofs.visit.Goals as goal

pub offset_bounds-work-at : goal.offset_bounds-work-at
offset_bounds-work-at c = omega (arith, visit_place _ _ _ _ c.requires)

pub bounds-work-at : goal.bounds-work-at
bounds-work-at c = visit_place _ _ _ _ c.requires

pub returns : goal.returns
returns c = visit_done _ _ _ _ c.requires _ c.from-p.ensures _ c.bring_onward.ensures _ c.bring_bodies.ensures
