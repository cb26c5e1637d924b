-- `position` finds the first byte that is no flag.
use Rattle.std.proofs.Common.{ℕ, ◌<◌, ◌≤◌, rules, tests, sym, ◌∙◌}
use Rattle.std.proofs.lemmas.Iterator.{YieldsList-from_slice, IsFirst-from_position}
use Rattle.interpreter.proofs.Looking.{flags_before}
use Rattle.interpreter.proofs.looks.flags_in.Goals as goal

pub returns : goal.returns
returns c =
    c.unwrap_or.ensures ∙ sym (flags_before c.args.lent.now c.position.result (IsFirst-from_position _ _ _ (λ (x : ℕ). 1 < x) (λ (x : ℕ). x ≤ 1) c.position.ensures.ran (YieldsList-from_slice c.args.lent.now cc) (λ x q k. search (rules, tests)) (λ x q k. search (rules, tests))))
