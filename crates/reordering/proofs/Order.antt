-- "Order of rules shall not matter": `order_does_not_matter`.
use mathlib.Core.Path.{refl, subst}
use mathlib.Core.List.{List}
use Prim.Native.Nat.{ℕ}
use Rattle.gdl.specs.Game.{Game}
use Rattle.gdl.specs.Valid.{Valid}
use Rattle.rules.specs.Verdict.{Verdict, unfit, fit}
use Rattle.rules.specs.Rules.{Judged}
use Rattle.rules.specs.Judged.{judge}
use Rattle.rules.proofs.Judging.{judge_is}
use Rattle.rules.proofs.Accepting.{judged_accepted}
use Rattle.calls.specs.Calls.{claim}
use Rattle.reordering.specs.Reordered.{SameClauses, Reordered, ReorderedTables}
use Rattle.reordering.specs.Same.{SameVerdict, SameMeaning}
use Rattle.reordering.proofs.Swapping.{same_back, model_same, hidden_same}
use Rattle.reordering.proofs.Judging.{verdicts_same}
use Rattle.reordering.proofs.Answering.{answers_equal}

-- two accepted games that differ only in the order or repetition of clauses mean the same
pub meaning_same : (G H : Game) → Reordered G H → Valid G → Valid H → SameMeaning G H
unfolding claim
meaning_same G H h v = subst (λ K. Valid K → SameMeaning G K) h.others (λ w. record {
  models = λ S A X. (model_same same G S A, model_same (same_back same) G S A);
  hides = λ z s m. (hidden_same same G, hidden_same (same_back same) G);
  of_claim = refl;
  of_others = answers_equal G H.clauses same v w;
})
  where
    same : SameClauses G.clauses H.clauses
    same = h.clauses

-- whatever verdicts the rules allow
pub judged_same : (s t : List ℕ) → ReorderedTables s t → (v w : Verdict) → Judged s v → Judged t w → SameVerdict SameMeaning v w
judged_same s t h v w a b = go v w a b (verdicts_same s t h v w a b)
  where
    go : (v w : Verdict) → Judged s v → Judged t w → SameVerdict Reordered v w → SameVerdict SameMeaning v w
    go (fit G) (fit H) a b r = meaning_same G H r (judged_accepted s G a).valid (judged_accepted t H b).valid
    go (fit G) (unfit q) a b r = r
    go (unfit p) (fit H) a b r = r
    go (unfit p) (unfit q) a b r = r

-- "both are accepted or both get the same refusal number; models, messages, hidden moves .. are equal. The place of 6 to 8 may differ."
pub order_does_not_matter : (s t : List ℕ) → ReorderedTables s t → SameVerdict SameMeaning (judge s) (judge t)
order_does_not_matter s t h = judged_same s t h (judge s) (judge t) (judge_is s) (judge_is t)
