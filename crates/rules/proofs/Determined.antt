-- The verdict is determined: any two verdicts that the rules allow are one.
use mathlib.Core.Path.{◌≡◌, sym, ap, ◌∙◌}
use mathlib.Core.Logic.{inl, inr}
use mathlib.Core.List.{List}
use Prim.Native.Nat.{ℕ, ◌<◌}
use native.Mathlib.Omega.{arith}
use native.Mathlib.Decide.{ℕ_discrete}
use Rattle.refusals.specs.declared.Refusal.{Refusal}
use Rattle.gdl.specs.Game.{Game}
use Rattle.table.specs.Parse.{Parse, ok, fault}
use Rattle.table.specs.Table.{table}
use Rattle.rules.specs.Verdict.{Verdict, unfit}
use Rattle.rules.specs.Rules.{Lowest, rule◌refuses◌else◌, Ruled, JudgedOf, Judged}

lowest_one : (Broken : ℕ → Type 0) (p q : ℕ) → Lowest Broken p → Lowest Broken q → p ≡ q
lowest_one Broken p q a b = elim (ℕ_discrete p q) [
  | yes e ↦ e
  | no ne ↦
      let l : ¬ (p < q) = λ h. b.lowest p h a.here in
      let g : ¬ (q < p) = λ h. a.lowest q h b.here in
      omega arith
]

module _ (Broken : ℕ → Type 0) (r : ℕ → Refusal) (Later : Verdict → Type 0) (one : (v w : Verdict) → Later v → Later w → v ≡ w) where
  rule_one : (v w : Verdict) → (rule Broken refuses r else Later) v → (rule Broken refuses r else Later) w → v ≡ w
  rule_one v w (inl a) (inl b) = a.2 ∙ ap (λ (p : ℕ). unfit (r p)) (lowest_one Broken a.0 b.0 a.1 b.1) ∙ sym b.2
  rule_one v w (inl a) (inr b) = absurd (b.0 a.0 a.1.here)
  rule_one v w (inr a) (inl b) = absurd (a.0 b.0 b.1.here)
  rule_one v w (inr a) (inr b) = one v w a.1 b.1

pub ruled_determined : (G : Game) (v w : Verdict) → Ruled G v → Ruled G w → v ≡ w
ruled_determined G =
    rule_one _ _ _ (rule_one _ _ _ (rule_one _ _ _ (rule_one _ _ _ (rule_one _ _ _ (rule_one _ _ _ (rule_one _ _ _ (λ v w a b. a ∙ sym b)))))))

pub judged_determined : (s : List ℕ) (v w : Verdict) → Judged s v → Judged s w → v ≡ w
judged_determined s v w = go (table s 0)
  where
    go : (p : Parse Game) → JudgedOf p v → JudgedOf p w → v ≡ w
    go (ok G n) = ruled_determined G v w
    go (fault f) = λ a b. a ∙ sym b
