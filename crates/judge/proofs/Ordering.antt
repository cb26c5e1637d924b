-- Laws of rules in a row: what answers them all.
use mathlib.Core.Path.{◌≡◌, refl, sym, subst}
use mathlib.Core.Logic.{inl, inr}
use mathlib.Core.List.{List, [], ◌∷◌, ◌++◌}
use Prim.Native.Nat.{ℕ}
use native.Mathlib.Omega.{arith}
use Rattle.std.specs.Prelude.{None, Some, Result, Ok, Err}
use Rattle.refusals.specs.declared.Refusal.{Refusal}
use Rattle.refusals.specs.declared.Refusal.TheVariants.{NoLevels, NoRoleFact}
use Rattle.gdl.specs.Game.{Game}
use Rattle.gdl.specs.declared.arrays.AtomArrays.{AtomArrays}
use Rattle.gdl.specs.declared.arrays.ClauseArrays.{ClauseArrays}
use Rattle.gdl.specs.Flags.{blank}
use Rattle.rules.specs.Verdict.{Verdict, unfit, fit}
use Rattle.rules.specs.Rules.{LevelsBroken, RoleMissing, Ruled}
use Rattle.judge.specs.Answers.{Searched}
use Rattle.judge.specs.Arrays.{HeldClauses, HeldEdges, HeldRoles, HeldUses}
use Rattle.judge.specs.Judgement.{Rule, RuledIn, head_rules, use_rules, last_rules, verdict_of, Held, Answers, Levelled, LevelsOr11, LevelsOf, Judges, HeldLast}
use Rattle.judge.proofs.Numbering.{levelled_none}
use Rattle.judge.proofs.Shaping.{held_clauses, held_uses, held_last}

-- ---- rows joined: a refusal stands whatever follows; where nothing is refused, what follows decides

clash : {P : Type 0} (G : Game) (r : Refusal) → ◌≡◌ {A = Verdict} (unfit r) (fit G) → P
clash G r e = let z : ◌≡◌ {A = ℕ} 0 1 = cc in absurd (omega arith)

module _ (G : Game) (rest : List Rule) where
  in_stop : (rules : List Rule) (r : Refusal) → RuledIn rules G (unfit r) → RuledIn (rules ++ rest) G (unfit r)
  in_stop [] r e = clash G r e
  in_stop (x ∷ rules) r (inl a) = inl a
  in_stop (x ∷ rules) r (inr b) = inr (b.0, in_stop rules r b.1)

  in_join : (rules : List Rule) (v : Verdict) → RuledIn rules G (fit G) → RuledIn rest G v → RuledIn (rules ++ rest) G v
  in_join [] v e l = l
  in_join (x ∷ rules) v (inl a) l = clash G _ (sym a.2)
  in_join (x ∷ rules) v (inr b) l = inr (b.0, in_join rules v b.1 l)

-- ---- 11 and 12

module _ (a : AtomArrays) (c : ClauseArrays) (owners literals : List ℕ) (seats : ℕ) (v : List ℕ) where
  module _ (n : Result ℕ ℕ) (l : LevelsOf (HeldEdges a.kinds.now owners literals) n v) where
    says : (m : Result ℕ ℕ) → n ≡ m → (G : Game) → HeldEdges a.kinds.now owners literals G → LevelsOr11 G m v
    says m e G h = subst (λ k. LevelsOr11 G k v) e (l.says G h)

    pub last_refused : (p : ℕ) → n ≡ Err p → Judges (HeldLast a c owners literals seats) (RuledIn last_rules) (Err (NoLevels p)) v
    last_refused p e = record { ruled = λ G h. inl (p, (says (Err p) e G h.edges).0, refl); leaves = λ G h. (says (Err p) e G h.edges).1 }

    module _ (top : ℕ) (e : n ≡ Ok top) where
      levelled : (G : Game) → HeldEdges a.kinds.now owners literals G → Levelled G v top
      levelled = says (Ok top) e

      no_cycle : (G : Game) → HeldEdges a.kinds.now owners literals G → (p : ℕ) → LevelsBroken G p → ⊥
      no_cycle G h = levelled_none G v top h.limits.heads (levelled G h)

      pub last_seat : (q : ℕ) → Searched (HeldRoles a c seats) RoleMissing (Some q) → Judges (HeldLast a c owners literals seats) (RuledIn last_rules) (Err (NoRoleFact q)) (blank 1024)
      last_seat q s = record { ruled = λ G h. inr (no_cycle G h.edges, inl (q, s.finds G h.roles, refl)); leaves = λ G h. refl }

      pub last_done : Searched (HeldRoles a c seats) RoleMissing None → Judges (HeldLast a c owners literals seats) (RuledIn last_rules) (Ok top) v
      last_done s = record { ruled = λ G h. inr (no_cycle G h.edges, inr (s.finds G h.roles, refl)); leaves = λ G h. levelled G h.edges }

-- ---- all of them

module _ (a : AtomArrays) (c : ClauseArrays) (owners : List ℕ) (seats : ℕ) where
  module _ (h : Answers (HeldClauses a c) head_rules (Ok tt)) where
    past_heads : (G : Game) → Held a c owners seats G → (v : Verdict) → RuledIn (use_rules ++ last_rules) G v → Ruled G v
    past_heads G k v l = in_join G (use_rules ++ last_rules) head_rules v (h.ruled G (held_clauses k)) l

    pub all_uses : (e : Refusal) → Answers (HeldUses a c owners c.literals.now) use_rules (Err e) → (v : List ℕ) → v ≡ blank 1024 → Judges (Held a c owners seats) Ruled (Err e) v
    all_uses e u v ev = record { ruled = λ G k. past_heads G k (unfit e) (in_stop G last_rules use_rules e (u.ruled G (held_uses k))); leaves = λ G k. ev }

    pub all_last : Answers (HeldUses a c owners c.literals.now) use_rules (Ok tt) → (j : Result ℕ Refusal) (v : List ℕ)
        → Judges (HeldLast a c owners c.literals.now seats) (RuledIn last_rules) j v → Judges (Held a c owners seats) Ruled j v
    all_last u j v l = record {
      ruled = λ G k. past_heads G k (verdict_of G j) (in_join G last_rules use_rules (verdict_of G j) (u.ruled G (held_uses k)) (l.ruled G (held_last k)));
      leaves = λ G k. l.leaves G (held_last k);
    }
