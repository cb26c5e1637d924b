-- Two tables that differ only in the order or repetition of clauses get the same verdict: `verdicts_same`.
use mathlib.Core.Path.{◌≡◌, refl, sym, subst, subst⁻¹, ◌∙◌}
use mathlib.Core.Logic.{inl, inr}
use mathlib.Core.List.{List}
use Prim.Native.Nat.{ℕ, ◌<◌}
use native.Mathlib.Omega.{arith}
use native.Mathlib.Decide.{ℕ_discrete}
use Rattle.refusals.specs.declared.Refusal.{Refusal}
use Rattle.refusals.specs.Refusal.{number_of}
use Rattle.gdl.specs.Game.{Clause, Game}
use Rattle.rules.specs.Verdict.{Verdict, unfit, fit}
use Rattle.rules.specs.Rules.{Lowest, rule◌refuses◌else◌, Ruled, JudgedOf, Judged}
use Rattle.reordering.specs.Reordered.{SameClauses, with_clauses, Reordered, ReorderedTables}
use Rattle.reordering.specs.Same.{MayDiffer, SameRefusal, SameVerdict}
use Rattle.reordering.proofs.Breaking.{role_broken, head_broken, body_broken, leans_more, levels_broken, role_missing}

-- two rules that are both broken somewhere or both nowhere, and whose refusals are then the same
record Both (Broken Broken' : ℕ → Type 0) (r : ℕ → Refusal) : Type 0 where
  there : (p : ℕ) → Broken p → (q : ℕ) × Broken' q
  back : (q : ℕ) → Broken' q → (p : ℕ) × Broken p
  refusals : (p q : ℕ) → Lowest Broken p → Lowest Broken' q → SameRefusal (r p) (r q)

module _ {Broken Broken' : ℕ → Type 0} {r : ℕ → Refusal} where
  -- "The place of 6 to 8 may differ."
  some_place : (n : ℕ) → MayDiffer n → ((p : ℕ) → number_of (r p) ≡ n) → ((p : ℕ) → Broken p → (q : ℕ) × Broken' q) → ((q : ℕ) → Broken' q → (p : ℕ) × Broken p)
      → Both Broken Broken' r
  some_place n free e f g = record {
    there = f;
    back = g;
    refusals = λ p q a b. record { number = e p ∙ sym (e q); place = λ no. absurd (no (subst⁻¹ MayDiffer (e p) free)) };
  }

  -- at the same places: so with the same refusal
  same_places : ((p : ℕ) → Broken p → Broken' p) → ((p : ℕ) → Broken' p → Broken p) → Both Broken Broken' r
  same_places f g = record {
    there = λ p b. (p, f p b);
    back = λ p b. (p, g p b);
    refusals = λ p q a b. subst (λ (x : ℕ). SameRefusal (r p) (r x)) (one p q a b) (record { number = refl; place = λ k. refl });
  }
    where
      one : (p q : ℕ) → Lowest Broken p → Lowest Broken' q → p ≡ q
      one p q a b = elim (ℕ_discrete p q) [
        | yes e ↦ e
        | no ne ↦
            let l : ¬ (p < q) = λ h. b.lowest p h (f p a.here) in
            let m : ¬ (q < p) = λ h. a.lowest q h (g q b.here) in
            omega arith
      ]

  module _ (h : Both Broken Broken' r) {P : Game → Game → Type 0} {Later Later' : Verdict → Type 0} where
    rule_same : ((v w : Verdict) → Later v → Later' w → SameVerdict P v w)
        → (v w : Verdict) → (rule Broken refuses r else Later) v → (rule Broken' refuses r else Later') w → SameVerdict P v w
    rule_same k v w (inl a) (inl b) = subst⁻¹ (λ x. SameVerdict P x w) a.2 (subst⁻¹ (λ y. SameVerdict P (unfit (r a.0)) y) b.2 (h.refusals a.0 b.0 a.1 b.1))
    rule_same k v w (inl a) (inr b) = let x = h.there a.0 a.1.here in absurd (b.0 x.0 x.1)
    rule_same k v w (inr a) (inl b) = let x = h.back b.0 b.1.here in absurd (a.0 x.0 x.1)
    rule_same k v w (inr a) (inr b) = k v w a.1 b.1

-- the rules of 6 to 8 are broken in both games or in neither, those of 9 to 12 at the same places
ruled_same : (G : Game) {C D : List Clause} → SameClauses C D → (v w : Verdict) → Ruled (with_clauses C G) v → Ruled (with_clauses D G) w → SameVerdict Reordered v w
ruled_same G {C} h =
    rule_same (some_place 6 (omega arith, omega arith) (λ p. refl) (role_broken h.there G) (role_broken h.back G))
    (rule_same (some_place 7 (omega arith, omega arith) (λ p. refl) (head_broken h.there G) (head_broken h.back G))
    (rule_same (some_place 8 (omega arith, omega arith) (λ p. refl) (body_broken h.there G) (body_broken h.back G))
    (rule_same (same_places (leans_more h.there G) (leans_more h.back G))
    (rule_same (same_places (leans_more h.there G) (leans_more h.back G))
    (rule_same (same_places (levels_broken h.there G) (levels_broken h.back G))
    (rule_same (same_places (role_missing h.back G) (role_missing h.there G))
    (λ v w e f. subst⁻¹ (λ x. SameVerdict Reordered x w) e (subst⁻¹ (λ y. SameVerdict Reordered (fit (with_clauses C G)) y) f (record { others = refl; clauses = h })))))))))

-- "both are accepted or both get the same refusal number"
pub verdicts_same : (s t : List ℕ) → ReorderedTables s t → (v w : Verdict) → Judged s v → Judged t w → SameVerdict Reordered v w
verdicts_same s t h v w a b =
    let r : Ruled h.game v = subst (λ p. JudgedOf p v) h.reads a in
    let q : Ruled h.game' w = subst (λ p. JudgedOf p w) h.reads' b in
    ruled_same h.game h.games.clauses v w r (subst⁻¹ (λ K. Ruled K w) h.games.others q)
