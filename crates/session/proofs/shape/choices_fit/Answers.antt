-- A test of the choices with their seats, one after another, is that of every choice.
use mathlib.Core.Path.{◌∙◌}
use Prim.Native.Nat.{ℕ}
use Rattle.std.proofs.Common.{rules, tests}
use Rattle.std.proofs.lemmas.Iterator.{YieldsList-from_slice}
use Rattle.std.proofs.lemmas.Iterator.Consumers.{YieldsList-from_enumerate}
use Rattle.std.proofs.lemmas.Iterator.Search.{all_from_yields_List}
use Rattle.session.specs.Shape.{choice_within}
use Rattle.session.proofs.Fits.{every_listed}
use Rattle.session.proofs.shape.choices_fit.Goals as goal

pub returns : goal.returns
returns c =
    let a = c.args in
    all_from_yields_List (λ (p : ℕ × ℕ). choice_within a.seats a.moves p.0 p.1) _ _ _ c.all.ensures.ran
    (YieldsList-from_enumerate (YieldsList-from_slice a.choices.now (cc)) (cc)) (λ x b q k. search (rules, tests))
    ∙ every_listed (choice_within a.seats a.moves) 0 a.choices.now
