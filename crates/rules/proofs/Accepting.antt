-- A table that was read is accepted exactly if it is valid in the page's words; and what the crates above use of an accepted one.
use mathlib.Core.Path.{◌≡◌, refl, sym, subst}
use mathlib.Core.Logic.{◌⊎◌, inl, inr, ◌↔◌}
use mathlib.Core.List.{List, [], ◌∷◌, Memᴰ}
use Prim.Native.Nat.{ℕ, ◌<◌}
use native.Mathlib.Omega.{arith}
use mathlib.Core.Bool.{◌&&◌}
use lib.Dec.{T, eqb, eqb→eq, T_not}
use lib.ListN.{length}
use Rattle.refusals.specs.declared.Refusal.{Refusal}
use Rattle.gdl.specs.Game.{Atom, Literal, Clause, Game, role_kind, is_atom, atom_at, clause_at, kind_of}
use Rattle.gdl.specs.Graph.{itself}
use Rattle.gdl.proofs.Tests.{and_left, test}
use Rattle.gdl.proofs.Levelling.{levels_iff}
use Rattle.table.specs.Parse.{Parse, ok, fault}
use Rattle.table.specs.Table.{table}
use Rattle.table.proofs.Values.{All}
use Rattle.rules.specs.Verdict.{Verdict, unfit, fit}
use Rattle.rules.specs.Rules.{RoleFact, Ruled, JudgedOf, Judged, ValidTable}
use Rattle.rules.specs.Judged.{role_given, judge}
use Rattle.rules.specs.Limits.{Limits}
use Rattle.rules.specs.Accepted.{Accepted}
use Rattle.gdl.proofs.Layouts.{at_mem, mem_at}
use Rattle.rules.proofs.Reading.{table_limits}
use Rattle.rules.proofs.Judging.{role_find, role_make, judge_is}

-- a rule that did not refuse: what follows it
later : {G : Game} {L : ℕ → Type 0} {r : ℕ → Refusal} {Q : Type 0} → ((p : ℕ) × L p × (fit G ≡ unfit (r p))) ⊎ Q → Q
later {Q = Q} (inl a) = clash a.2
  where
    clash : {G : Game} {r : Refusal} → fit G ≡ unfit r → Q
    clash e = let z : ◌≡◌ {A = ℕ} 0 1 = cc in absurd (omega arith)
later (inr b) = b

each_clause : (G : Game) (P : Clause → Type 0) → ((i : ℕ) → i < length G.clauses → P (clause_at G i)) → (c : Clause) → Memᴰ c G.clauses → P c
each_clause G P h c m = let r = mem_at (record { head = 0; body = [] }) G.clauses c m in subst P r.2 (h r.0 r.1)

bare : (b : List Literal) → ((b ≡ [] → ⊥) → ⊥) → b ≡ []
bare [] h = refl
bare (x ∷ b) h = absurd (h (λ e. let z : ◌≡◌ {A = ℕ} 0 1 = cc in omega arith))

role_stands : (G : Game) (s : ℕ) → ((RoleFact G s → ⊥) → ⊥) → RoleFact G s
role_stands G s h = elim (test (role_given G s)) [ inl t ↦ role_find G s t | inr t ↦ absurd (h (λ f. T_not (role_given G s) t (role_make G s f))) ]

module _ (G : Game) (l : Limits G) where
  ruled_valid : Ruled G (fit G) → ValidTable G
  ruled_valid r =
      let roles = later r in
      let heads = later roles.1 in
      let bodies = later heads.1 in
      let inits = later bodies.1 in
      let does = later inits.1 in
      let levels = later does.1 in
      let seats = later levels.1 in
      let numbered = (levels_iff itself (length G.atoms) G.clauses l.heads l.bodies).1 (record { none = levels.0 }) in
      record {
        roles_bare = each_clause G (λ c. kind_of G c.head ≡ role_kind → c.body ≡ []) (λ i lt e. bare (clause_at G i).body (λ n. roles.0 i (record { clause = lt; role = e; literals = n })));
        never_heads = each_clause G _ (λ i lt t. heads.0 i (record { clause = lt; head = t }));
        never_in_bodies = each_clause G _ (λ i lt x k t. bodies.0 i (record { clause = lt; literal = x; in_body = k; kind = t }));
        init_rule = inits.0;
        does_rule = does.0;
        numbering = numbered.0;
        levels = numbered.1;
        role_facts = λ s lt. role_stands G s (λ n. seats.0 s (record { seat = lt; none = n }));
      }

  valid_ruled : ValidTable G → Ruled G (fit G)
  valid_ruled v =
      inr (
        (λ i b. b.literals (v.roles_bare (clause_at G i) (at_mem _ G.clauses i b.clause) b.role)),
        inr (
          (λ i b. v.never_heads (clause_at G i) (at_mem _ G.clauses i b.clause) b.head),
          inr (
            (λ i b. v.never_in_bodies (clause_at G i) (at_mem _ G.clauses i b.clause) b.literal b.in_body b.kind),
            inr (
              v.init_rule,
              inr (
                v.does_rule,
                inr (
                  ((levels_iff itself (length G.atoms) G.clauses l.heads l.bodies).0 (v.numbering, v.levels)).none,
                  inr (
                    (λ s b. b.none (v.role_facts s b.seat)),
                    refl,
                  ),
                ),
              ),
            ),
          ),
        ),
      )

  -- a table that was read is accepted exactly if it is valid
  pub valid_iff : Ruled G (fit G) ↔ ValidTable G
  valid_iff = (ruled_valid, valid_ruled)

  accepted_by : Ruled G (fit G) → Accepted G
  accepted_by r =
      let v : ValidTable G = ruled_valid r in
      record {
        limits = l;
        rules = v;
        valid = record {
          heads = l.heads;
          bodies = l.bodies;
          levels = (levels_iff itself (length G.atoms) G.clauses l.heads l.bodies).0 (v.numbering, v.levels);
        };
        roles = λ s lt.
            let f : RoleFact G s = v.role_facts s lt in
            record { fact = f; bare = v.roles_bare f.clause f.in_table (role_kind_lem (atom_at G f.clause.head) s f.is_role) };
      }
    where
      role_kind_lem : (a : Atom) (s : ℕ) → T (is_atom role_kind s 0 a) → a.kind ≡ role_kind
      role_kind_lem a s t = eqb→eq a.kind role_kind (and_left (eqb a.kind role_kind) (eqb a.first s && eqb a.second 0) t)

-- the rules accept no game but the one that they are asked about
ruled_same : (H G : Game) → Ruled H (fit G) → H ≡ G
ruled_same H G r = same (later (later (later (later (later (later (later r).1).1).1).1).1).1).1
  where
    same : ◌≡◌ {A = Verdict} (fit G) (fit H) → H ≡ G
    same e = cc

pub judged_accepted : (s : List ℕ) (G : Game) → Judged s (fit G) → Accepted G
judged_accepted s G = go (table s 0) (table_limits s)
  where
    go : (p : Parse Game) → All (λ G n. Limits G) p → JudgedOf p (fit G) → Accepted G
    go (ok H n) l r =
        let e : H ≡ G = ruled_same H G r in
        subst Accepted e (accepted_by H l (subst (λ (x : Game). Ruled H (fit x)) (sym e) r))
    go (fault f) l e = let z : ◌≡◌ {A = ℕ} 0 1 = cc in absurd (omega arith)

pub accepted : (s : List ℕ) (G : Game) → judge s ≡ fit G → Accepted G
accepted s G e = judged_accepted s G (subst (Judged s) e (judge_is s))
