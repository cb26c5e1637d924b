-- The computed verdict is the declared one: each computed test strikes exactly at the places that break its rule.
use mathlib.Core.Path.{◌≡◌, refl, sym, subst, subst⁻¹}
use mathlib.Core.Logic.{◌⊎◌, inl, inr}
use mathlib.Core.Bool.{Bool, not, ◌&&◌}
use mathlib.Core.List.{List, [], ◌∷◌, Memᴰ}
use Prim.Native.Nat.{ℕ, suc, ◌<◌}
use native.Mathlib.Omega.{arith}
use lib.Dec.{T, eqb, ltb, eqb→eq, lt→ltb, T_not, not_T}
use lib.ListN.{length}
use Rattle.refusals.specs.declared.Refusal.{Refusal}
use Rattle.refusals.specs.Ruling.{lowest, Ruling, or_else, first_of}
use Rattle.refusals.proofs.Ruling.{by_lowest}
use Rattle.gdl.specs.Game.{Literal, pos, neg, atom_of, Clause, Game, role_kind, init_kind, true_kind, does_kind, legal_kind, next_kind, sees_kind, terminal_kind, goal_kind, is_atom, atom_at, clause_at, kind_of}
use Rattle.gdl.specs.Flags.{on}
use Rattle.gdl.specs.Graph.{itself, Depends, TurnsBack}
use Rattle.gdl.specs.Computed.{above}
use Rattle.gdl.proofs.Tests.{eq→eqb, and_left, and_right, and_both}
use Rattle.gdl.proofs.Depending.{above_self, above_sound, above_complete}
use Rattle.table.specs.Parse.{Parse, ok, fault}
use Rattle.table.specs.Table.{table}
use Rattle.table.proofs.Values.{All}
use Rattle.rules.specs.Verdict.{Verdict, unfit}
use Rattle.rules.specs.Rules.{some, one_of, RoleBroken, HeadBroken, BodyBroken, Leans, RoleFact, RoleMissing, rule◌refuses◌else◌, Ruled, JudgedOf, Judged}
use Rattle.rules.specs.Judged.{disjoint, some_below, leans, negated_in, turns_back, role_given, table_tests, ruled_by, judged_of, judge}
use Rattle.rules.specs.Limits.{Limits}
use Rattle.rules.proofs.Determined.{judged_determined}
use Rattle.rules.proofs.Finding.{some_make, some_find, below_make, below_find, apart}
use Rattle.rules.proofs.Reading.{table_limits}

-- a test of the first n numbers strikes exactly where a rule is broken
pub record Exact (Broken : ℕ → Type 0) (n : ℕ) (f : ℕ → Bool) : Type 0 where
  pub inside : (p : ℕ) → Broken p → p < n
  pub strikes : (p : ℕ) → Broken p → T (f p)
  pub broken : (p : ℕ) → p < n → T (f p) → Broken p

-- what the tests come to is a verdict as P asks
record Gives (G : Game) (P : Verdict → Type 0) (x : Ruling) : Type 0 where
  verdict : P (ruled_by G x)

-- a test's refusal, or what the later tests say, is as its rule has it
rule_by : {G : Game} {Broken : ℕ → Type 0} {r : ℕ → Refusal} {Later : Verdict → Type 0} {n : ℕ} {f : ℕ → Bool} {rest : Ruling} → Exact Broken n f
    → Gives G Later rest → Gives G (rule Broken refuses r else Later) (or_else r (lowest f 0 n) rest)
rule_by {G} {Broken} {r} {Later} {n} {f} {rest} e l = by_lowest f 0 n (λ w. Gives G (rule Broken refuses r else Later) (or_else r w rest))
    (λ none. record { verdict = inr ((λ p b. none p (omega arith) (omega (arith, e.inside p b)) (e.strikes p b)), l.verdict) })
    (λ p s. record {
      verdict = inl (
        p,
        record {
          here = e.broken p (omega (arith, s.below)) s.passes;
          lowest = λ q lt b. s.lowest q (omega arith) lt (e.strikes q b);
        },
        refl,
      );
    })

empty_not : (b : List Literal) → T (ltb 0 (length b)) → b ≡ [] → ⊥
empty_not b t e = rw e at t

not_empty : (b : List Literal) → (b ≡ [] → ⊥) → T (ltb 0 (length b))
not_empty [] h = absurd (h refl)
not_empty (x ∷ b) h = lt→ltb 0 (suc (length b)) (omega arith)

module _ (G : Game) where
  pub role_exact : Exact (RoleBroken G) (length G.clauses) (λ i. eqb (kind_of G (clause_at G i).head) role_kind && ltb 0 (length (clause_at G i).body))
  role_exact = record {
    inside = λ i b. b.clause;
    strikes = λ i b. and_both (eqb (kind_of G (clause_at G i).head) role_kind) (ltb 0 (length (clause_at G i).body))
        (eq→eqb (kind_of G (clause_at G i).head) role_kind b.role) (not_empty (clause_at G i).body b.literals);
    broken = λ i lt t. record {
      clause = lt;
      role = eqb→eq (kind_of G (clause_at G i).head) role_kind (and_left (eqb (kind_of G (clause_at G i).head) role_kind) (ltb 0 (length (clause_at G i).body)) t);
      literals = empty_not (clause_at G i).body (and_right (eqb (kind_of G (clause_at G i).head) role_kind) (ltb 0 (length (clause_at G i).body)) t);
    };
  }

  pub head_exact : Exact (HeadBroken G) (length G.clauses) (λ i. one_of (true_kind ∷ does_kind ∷ []) (kind_of G (clause_at G i).head))
  head_exact = record { inside = λ i b. b.clause; strikes = λ i b. b.head; broken = λ i lt t. record { clause = lt; head = t } }

  pub body_exact : Exact (BodyBroken G) (length G.clauses) (λ i. some (λ x. one_of (init_kind ∷ next_kind ∷ sees_kind ∷ []) (kind_of G (atom_of x))) (clause_at G i).body)
  body_exact = record {
    inside = λ i b. b.clause;
    strikes = λ i b. some_make (λ x. one_of (init_kind ∷ next_kind ∷ sees_kind ∷ []) (kind_of G (atom_of x))) (clause_at G i).body b.literal b.in_body b.kind;
    broken = λ i lt t.
        let r = some_find (λ x. one_of (init_kind ∷ next_kind ∷ sees_kind ∷ []) (kind_of G (atom_of x))) (clause_at G i).body t in
        record { clause = lt; literal = r.0; in_body = r.1; kind = r.2 };
  }

  pub role_find : (s : ℕ) → T (role_given G s) → RoleFact G s
  role_find s t = let r = some_find (λ c. is_atom role_kind s 0 (atom_at G c.head)) G.clauses t in record { clause = r.0; in_table = r.1; is_role = r.2 }

  pub role_make : (s : ℕ) → RoleFact G s → T (role_given G s)
  role_make s f = some_make (λ c. is_atom role_kind s 0 (atom_at G c.head)) G.clauses f.clause f.in_table f.is_role

  pub seat_exact : Exact (RoleMissing G) G.seats (λ s. not (role_given G s))
  seat_exact = record {
    inside = λ s b. b.seat;
    strikes = λ s b. not_T (role_given G s) (λ t. b.none (role_find s t));
    broken = λ s lt t. record { seat = lt; none = λ f. T_not (role_given G s) t (role_make s f) };
  }

  module _ (heads : (c : Clause) → Memᴰ c G.clauses → c.head < length G.atoms) where
    lean_exact : (these those : List ℕ) → T (disjoint these those) → Exact (Leans these those G) (length G.atoms) (leans G these those)
    unfolding above
    lean_exact these those d = record {
      inside = λ p b. b.atom;
      strikes = λ p b. and_both (one_of these (kind_of G p)) (some_below (test p) A) b.kind
          (below_make (test p) A b.on b.other
          (and_both (one_of those (kind_of G b.on)) (on (above itself G.clauses A b.on) p) b.other_kind
          (above_complete itself A G.clauses heads b.on b.other p b.depends)));
      broken = λ p lt t. back p lt (and_left (one_of these (kind_of G p)) (some_below (test p) A) t)
          (below_find (test p) A (and_right (one_of these (kind_of G p)) (some_below (test p) A) t));
    }
      where
        A : ℕ
        A = length G.atoms

        test : ℕ → ℕ → Bool
        test p q = one_of those (kind_of G q) && on (above itself G.clauses A q) p

        back : (p : ℕ) → p < A → T (one_of these (kind_of G p)) → (q : ℕ) × (q < A) × T (test p q) → Leans these those G p
        back p lt t (q, ql, u) = go (and_left (one_of those (kind_of G q)) (on (above itself G.clauses A q) p) u)
            (above_sound itself A G.clauses heads q p (and_right (one_of those (kind_of G q)) (on (above itself G.clauses A q) p) u))
          where
            go : T (one_of those (kind_of G q)) → (p ≡ q) ⊎ Depends itself G.clauses p q → Leans these those G p
            go k (inl e) = absurd (apart these those d (kind_of G p) t (subst (λ (x : ℕ). T (one_of those (kind_of G x))) (sym e) k))
            go k (inr w) = record { atom = lt; kind = t; on = q; other = ql; other_kind = k; depends = w }

    turns_exact : Exact (TurnsBack itself G.clauses) (length G.atoms) (turns_back G)
    unfolding above
    turns_exact = record {
      inside = λ p b. subst (λ (x : ℕ). x < A) b.is_head (heads b.clause b.in_table);
      strikes = λ p b. some_make (test p) G.clauses b.clause b.in_table
          (and_both (eqb b.clause.head p) (some (negated_in (X p)) b.clause.body) (eq→eqb b.clause.head p b.is_head)
          (some_make (negated_in (X p)) b.clause.body (neg b.q) b.in_body
          (over p (subst (λ (x : ℕ). x < A) b.is_head (heads b.clause b.in_table)) b.q b.back)));
      broken = λ p lt t.
          let r = some_find (test p) G.clauses t in
          back p r.0 r.1 (eqb→eq r.0.head p (and_left (eqb r.0.head p) (some (negated_in (X p)) r.0.body) r.2))
          (some_find (negated_in (X p)) r.0.body (and_right (eqb r.0.head p) (some (negated_in (X p)) r.0.body) r.2));
    }
      where
        A : ℕ
        A = length G.atoms

        X : ℕ → ℕ → Bool
        X p = on (above itself G.clauses A p)

        test : ℕ → Clause → Bool
        test p c = eqb c.head p && some (negated_in (X p)) c.body

        over : (p : ℕ) → p < A → (q : ℕ) → (q ≡ p) ⊎ Depends itself G.clauses q p → T (X p q)
        over p lt q (inl e) = subst (λ (x : ℕ). T (X p x)) (sym e) (above_self itself A G.clauses heads p lt)
        over p lt q (inr d) = above_complete itself A G.clauses heads p lt q d

        back : (p : ℕ) (c : Clause) → Memᴰ c G.clauses → c.head ≡ p → (l : Literal) × Memᴰ l c.body × T (negated_in (X p) l) → TurnsBack itself G.clauses p
        back p c m e (pos q, k, t) = absurd t
        back p c m e (neg q, k, t) = record { clause = c; in_table = m; is_head = e; q = q; in_body = k; back = above_sound itself A G.clauses heads p q t }

ruled_by_lem : (G : Game) → Limits G → Gives G (Ruled G) (first_of (table_tests G))
unfolding table_tests above
ruled_by_lem G l =
    rule_by (role_exact G)
    (rule_by (head_exact G)
    (rule_by (body_exact G)
    (rule_by (lean_exact G l.heads (init_kind ∷ []) (true_kind ∷ does_kind ∷ legal_kind ∷ terminal_kind ∷ goal_kind ∷ []) tt)
    (rule_by (lean_exact G l.heads (legal_kind ∷ terminal_kind ∷ goal_kind ∷ []) (does_kind ∷ []) tt)
    (rule_by (turns_exact G l.heads)
    (rule_by (seat_exact G)
    (record { verdict = refl })))))))

pub judge_is : (s : List ℕ) → Judged s (judge s)
unfolding judge
judge_is s = go (table s 0) (table_limits s)
  where
    go : (p : Parse Game) → All (λ G n. Limits G) p → JudgedOf p (judged_of p)
    go (ok G n) l = (ruled_by_lem G l).verdict
    go (fault f) l = refl

-- ---- from the reading to the computed verdict

module _ (s : List ℕ) where
  pub fault_judge : (f : Refusal) → table s 0 ≡ fault f → unfit f ≡ judge s
  unfolding judge
  fault_judge f e = rw e refl

  pub read_judge : (G : Game) (n : ℕ) (v : Verdict) → table s 0 ≡ ok G n → Ruled G v → v ≡ judge s
  read_judge G n v e r = judged_determined s v (judge s) (subst⁻¹ (λ p. JudgedOf p v) e r) (judge_is s)
