-- The promise of the check determines its answer: any two judgements that it allows of one game are equal.
use mathlib.Core.Path.{◌≡◌, sym, ap, ◌∙◌}
use mathlib.Core.List.{List}
use Prim.Native.Nat.{ℕ}
use native.Mathlib.Nat.{le_antisymm}
use native.Mathlib.Omega.{arith}
use lib.Seq.{ext_get_or}
use Rattle.std.specs.Prelude.{Result, Ok, Err}
use Rattle.refusals.specs.declared.Refusal.{Refusal}
use Rattle.gdl.specs.Game.{Game}
use Rattle.gdl.specs.Computed.{look}
use Rattle.rules.specs.Verdict.{Verdict, unfit, fit}
use Rattle.rules.specs.Rules.{Ruled}
use Rattle.rules.proofs.Determined.{ruled_determined}
use Rattle.judge.specs.Judgement.{verdict_of, Levelled, Leaves, Judges}

clash : {P : Type 0} (G : Game) (r : Refusal) → ◌≡◌ {A = Verdict} (unfit r) (fit G) → P
clash G r e = let z : ◌≡◌ {A = ℕ} 0 1 = cc in absurd (omega arith)

module _ (G : Game) (v w : List ℕ) (t u : ℕ) (a : Levelled G v t) (b : Levelled G w u) where
  level_one : (p : ℕ) → look v p ≡ look w p
  level_one p = le_antisymm (a.least.least (look w) b.least.allowed p) (b.least.least (look v) a.least.allowed p)

  levels_one : v ≡ w
  levels_one = ext_get_or 0 v w (a.places ∙ sym b.places) (λ p lt. level_one p)

  top_one : t ≡ u
  top_one = le_antisymm (a.top_is.first u (λ p lt. omega (arith, level_one p, b.top_is.above p lt))) (b.top_is.first t (λ p lt. omega (arith, level_one p, a.top_is.above p lt)))

module _ (Held : Game → Type 0) (G : Game) (h : Held G) where
  pub judges_determined : (j k : Result ℕ Refusal) (v w : List ℕ) → Judges Held Ruled j v → Judges Held Ruled k w → (j ≡ k) × (v ≡ w)
  judges_determined j k v w a b = go j k (ruled_determined G _ _ (a.ruled G h) (b.ruled G h)) (a.leaves G h) (b.leaves G h)
    where
      go : (j k : Result ℕ Refusal) → verdict_of G j ≡ verdict_of G k → Leaves G j v → Leaves G k w → (j ≡ k) × (v ≡ w)
      go (Ok t) (Ok u) e x y = (ap Ok (top_one G v w t u x y), levels_one G v w t u x y)
      go (Ok t) (Err q) e x y = clash G q (sym e)
      go (Err r) (Ok u) e x y = clash G r e
      go (Err r) (Err q) e x y = (ap Err (unfit_one r q e), x ∙ sym y)
        where
          unfit_one : (r q : Refusal) → ◌≡◌ {A = Verdict} (unfit r) (unfit q) → r ≡ q
          unfit_one r q e = cc
