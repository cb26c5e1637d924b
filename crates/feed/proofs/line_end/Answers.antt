-- `position` finds the first line end.
use Rattle.std.proofs.Common.{◌≡◌, ℕ, rules, tests, sym}
use Rattle.std.proofs.lemmas.Iterator.{YieldsList-from_slice, IsFirst-from_position}
use Rattle.feed.proofs.Feeding.{until_first}
use Rattle.feed.proofs.line_end.Goals as goal

pub returns-clause-value : goal.returns-clause-value
returns-clause-value c =
    sym (until_first c.args.bytes.now _ (IsFirst-from_position _ _ _ (λ (x : ℕ). x ≡ 10) (λ (x : ℕ). x ≡ 10 → ⊥) c.position.ensures.ran (YieldsList-from_slice c.args.bytes.now cc) (λ x q k. search (rules, tests)) (λ x q k. search (rules, tests))))
