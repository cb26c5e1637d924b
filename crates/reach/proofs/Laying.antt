-- Arrays that hold a game: what they say of its atoms and clauses, what brings in what, and that the code can read them.
use mathlib.Core.Path.{◌≡◌, refl, sym, ap, subst, ◌∙◌}
use mathlib.Core.Logic.{inl, inr}
use mathlib.Core.Bool.{◌||◌}
use mathlib.Core.List.{List, []}
use Prim.Native.Nat.{ℕ, suc, ◌+◌, ◌-◌, ◌/◌, ◌<◌, ◌≤◌}
use native.Mathlib.Nat.{sub-zero}
use native.Mathlib.Numerals.{add-one}
use native.Mathlib.Omega.{arith}
use lib.Dec.{T, eqb, eqb→eq}
use lib.ListN.{length, get_or, drop, length-map, get_or-map, get_or-eq_default}
use lib.Seq.{get_or-take, get_or-drop}
use Rattle.gdl.specs.Game.{Atom, Literal, pos, atom_of, Clause, Game, true_kind, next_kind, init_kind, is_kind, atom_at, clause_at, kind_of}
use Rattle.gdl.specs.Graph.{itself}
use Rattle.gdl.specs.Layout.{code_of, starts_from, literals_of}
use Rattle.gdl.proofs.Tests.{eq→eqb, and_left, and_right, and_both, or_left, or_right, or_cases}
use Rattle.gdl.proofs.Layouts.{code_half, at_mem, mem_at, starts_long_lem, next_start, starts_end, body_part}
use Rattle.gdl.proofs.Linking.{Leads, to_body, to_next}
use Rattle.edges.proofs.Drawing.{clauses_graph}
use Rattle.gdl.specs.declared.arrays.AtomArrays.{AtomArrays}
use Rattle.gdl.specs.declared.arrays.ClauseArrays.{ClauseArrays}
use Rattle.reach.specs.Promise.{Laid, Ready}
use Rattle.reach.specs.Seeds.{Columns}
use Rattle.reach.specs.Bodies.{InBodies}
use Rattle.reach.specs.Onward.{Onward}
use Rattle.reach.specs.Steps.{by_body, by_fluent, Brings, Readable}

abbrev no_atom : Atom
no_atom = record { kind = 0; first = 0; second = 0 }

abbrev no_clause : Clause
no_clause = record { head = 0; body = [] }

abbrev no_literal : Literal
no_literal = pos 0

module _ {G : Game} {atoms : AtomArrays} {clauses : ClauseArrays} (laid : Laid G atoms clauses) where
  -- ---- atoms

  pub laid_long : length atoms.kinds.now ≡ length G.atoms
  laid_long = ap length laid.is_kinds ∙ length-map G.atoms _

  pub laid_kind : (p : ℕ) → get_or atoms.kinds.now p 0 ≡ kind_of G p
  laid_kind p = ap (λ (l : List ℕ). get_or l p 0) laid.is_kinds ∙ get_or-map (λ (a : Atom). a.kind) G.atoms p no_atom

  pub laid_first : (p : ℕ) → get_or atoms.firsts.now p 0 ≡ (atom_at G p).first
  laid_first p = ap (λ (l : List ℕ). get_or l p 0) laid.is_firsts ∙ get_or-map (λ (a : Atom). a.first) G.atoms p no_atom

  kind_split : (k x p : ℕ) → T (is_kind k x (atom_at G p)) → (get_or atoms.kinds.now p 0 ≡ k) × (get_or atoms.firsts.now p 0 ≡ x)
  kind_split k x p t = (
    laid_kind p ∙ eqb→eq (kind_of G p) k (and_left (eqb (kind_of G p) k) (eqb (atom_at G p).first x) t),
    laid_first p ∙ eqb→eq (atom_at G p).first x (and_right (eqb (kind_of G p) k) (eqb (atom_at G p).first x) t),
  )

  kind_make : (k x p : ℕ) → get_or atoms.kinds.now p 0 ≡ k → get_or atoms.firsts.now p 0 ≡ x → T (is_kind k x (atom_at G p))
  kind_make k x p ek ex =
      and_both (eqb (kind_of G p) k) (eqb (atom_at G p).first x) (eq→eqb (kind_of G p) k (sym (laid_kind p) ∙ ek)) (eq→eqb (atom_at G p).first x (sym (laid_first p) ∙ ex))

  onward_split : (x q : ℕ) → T (is_kind next_kind x (atom_at G q) || is_kind init_kind x (atom_at G q)) → Onward atoms x q
  onward_split x q t = elim (or_cases (is_kind next_kind x (atom_at G q)) (is_kind init_kind x (atom_at G q)) t) [
    | inl u ↦ let (k, e) = kind_split next_kind x q u in record { kind = or_left (eqb (get_or atoms.kinds.now q 0) next_kind) (eqb (get_or atoms.kinds.now q 0) init_kind) (eq→eqb (get_or atoms.kinds.now q 0) next_kind k); fluent = e }
    | inr u ↦ let (k, e) = kind_split init_kind x q u in record { kind = or_right (eqb (get_or atoms.kinds.now q 0) next_kind) (eqb (get_or atoms.kinds.now q 0) init_kind) (eq→eqb (get_or atoms.kinds.now q 0) init_kind k); fluent = e }
  ]

  onward_make : (x q : ℕ) → Onward atoms x q → T (is_kind next_kind x (atom_at G q) || is_kind init_kind x (atom_at G q))
  onward_make x q o = elim (or_cases (eqb (get_or atoms.kinds.now q 0) next_kind) (eqb (get_or atoms.kinds.now q 0) init_kind) o.kind) [
    | inl u ↦ or_left (is_kind next_kind x (atom_at G q)) (is_kind init_kind x (atom_at G q)) (kind_make next_kind x q (eqb→eq (get_or atoms.kinds.now q 0) next_kind u) o.fluent)
    | inr u ↦ or_right (is_kind next_kind x (atom_at G q)) (is_kind init_kind x (atom_at G q)) (kind_make init_kind x q (eqb→eq (get_or atoms.kinds.now q 0) init_kind u) o.fluent)
  ]

  -- ---- clauses

  laid_many : length clauses.heads.now ≡ length G.clauses
  laid_many = ap length laid.is_heads ∙ length-map G.clauses _

  laid_head : (i : ℕ) → get_or clauses.heads.now i 0 ≡ (clause_at G i).head
  laid_head i = ap (λ (l : List ℕ). get_or l i 0) laid.is_heads ∙ get_or-map (λ (c : Clause). c.head) G.clauses i no_clause

  module _ (i : ℕ) (lt : i < length G.clauses) where
    laid_end : get_or clauses.starts.now (i + 1) 0 ≡ get_or clauses.starts.now i 0 + length (clause_at G i).body
    laid_end = rw (laid.is_starts, add-one) (next_start 0 G.clauses i lt)

    laid_literal : (j : ℕ) → j < length (clause_at G i).body → get_or clauses.literals.now (get_or clauses.starts.now i 0 + j) 0 ≡ code_of (get_or (clause_at G i).body j no_literal)
    laid_literal j lj = rw (laid.is_starts, laid.is_literals)
        (sym (get_or-drop (get_or (starts_from 0 G.clauses) i 0) (literals_of G.clauses) j 0)
        ∙ sym (get_or-take (length (clause_at G i).body) (drop (get_or (starts_from 0 G.clauses) i 0) (literals_of G.clauses)) j 0 lj)
        ∙ ap (λ (l : List ℕ). get_or l j 0) (rw sub-zero at (body_part 0 G.clauses i lt)) ∙ get_or-map code_of (clause_at G i).body j no_literal)

    laid_atom : (j : ℕ) → j < length (clause_at G i).body → get_or clauses.literals.now (get_or clauses.starts.now i 0 + j) 0 / 2 ≡ atom_of (get_or (clause_at G i).body j no_literal)
    laid_atom j lj = ap (λ (y : ℕ). y / 2) (laid_literal j lj) ∙ code_half itself (get_or (clause_at G i).body j no_literal)

    -- an atom of its body, by its number there
    laid_body : (c : Clause) → clause_at G i ≡ c → (j : ℕ) → j < length c.body → (x : Literal) → get_or c.body j no_literal ≡ x → InBodies clauses c.head (atom_of x)
    laid_body c e j lj x ex = rw (← ex, ← e) (record {
      clause = i;
      within = omega (arith, laid_many);
      is_head = laid_head i;
      in_body = let l : j < length (clause_at G i).body = rw e lj in record { place = get_or clauses.starts.now i 0 + j; from = omega arith; to = omega (arith, laid_end); is_atom = laid_atom j l };
    })

  -- ---- what brings in what, in the arrays and in the game

  pub leads_brings : {p q : ℕ} → Leads G p q → Brings atoms clauses p q
  leads_brings (to_body c m x k) =
      let (i, lt, e) = mem_at no_clause G.clauses c m in
      let (j, lj, ej) = mem_at no_literal c.body x k in
      by_body (laid_body i lt c e j lj x ej)
  leads_brings {p} {q} (to_next f pl ql t u) =
      let (kt, xt) = kind_split true_kind f p t in
      by_fluent (record { is_true = kt; within = omega (arith, laid_long); onward = rw xt (onward_split f q u) })

  body_leads : {p q : ℕ} → InBodies clauses p q → Leads G p q
  body_leads {p} {q} b =
      let i : ℕ = b.clause in
      let lt : i < length G.clauses = omega (arith, b.within, laid_many) in
      let c : Clause = clause_at G i in
      let j : ℕ = b.in_body.place - get_or clauses.starts.now i 0 in
      let lj : j < length c.body = omega (arith, b.in_body.from, b.in_body.to, laid_end i lt) in
      let e : get_or clauses.starts.now i 0 + j ≡ b.in_body.place = omega (arith, b.in_body.from) in
      let x : Literal = get_or c.body j no_literal in
      let h : atom_of x ≡ q = sym (laid_atom i lt j lj) ∙ ap (λ (y : ℕ). get_or clauses.literals.now y 0 / 2) e ∙ b.in_body.is_atom in
      subst (λ (y : ℕ). Leads G p y) h (subst (λ (y : ℕ). Leads G y (atom_of x)) (sym (laid_head i) ∙ b.is_head) (to_body c (at_mem no_clause G.clauses i lt) x (at_mem no_literal c.body j lj)))

  pub brings_leads : {p q : ℕ} → Brings atoms clauses p q → Leads G p q
  brings_leads (by_body b) = body_leads b
  brings_leads {p} {q} (by_fluent f) =
      let x : ℕ = get_or atoms.firsts.now p 0 in
      to_next {p = p} {q = q} x (inside p f.is_true) (omega (arith, f.within, laid_long)) (kind_make true_kind x p f.is_true refl) (onward_make x q f.onward)
    where
      inside : (p : ℕ) → get_or atoms.kinds.now p 0 ≡ true_kind → p < length G.atoms
      inside p e = let no : length atoms.kinds.now ≤ p → ⊥ = λ le. omega (arith, get_or-eq_default atoms.kinds.now 0 {n = p} le) in omega (arith, laid_long)

-- ---- what the code asks of the arrays

module _ (atoms : AtomArrays) (clauses : ClauseArrays) (w : Ready atoms clauses) where
  pub ready_columns : Columns atoms
  ready_columns = record {
    few = omega (arith, laid_long w.laid, w.small.few_atoms);
    same = ap length w.laid.is_firsts ∙ length-map w.game.atoms _ ∙ sym (laid_long w.laid);
  }

  pub ready_readable : Readable atoms clauses
  ready_readable = record {
    lows = record {
      columns = ready_columns;
      low = λ p lt t. subst (λ (x : ℕ). x < 512) (sym (laid_first w.laid p))
          (w.small.fluents_in (atom_at w.game p) (at_mem no_atom w.game.atoms p (omega (arith, laid_long w.laid))) (sym (laid_kind w.laid p) ∙ t));
    };
    clauses = record {
      is_heads = record {
        few = omega (arith, laid_many w.laid, w.small.few_clauses);
        atoms = λ c lt. omega (arith, laid_head w.laid c, w.small.heads_in (clause_at w.game c) (at_mem no_clause w.game.clauses c (omega (arith, laid_many w.laid))), w.small.few_atoms);
      };
      long = rw (w.laid.is_starts, laid_many w.laid, starts_long_lem, add-one);
      rising = λ c lt. omega (arith, laid_end w.laid c (omega (arith, laid_many w.laid)));
      ends = λ c lt. rw (w.laid.is_starts, w.laid.is_literals, add-one) (omega (arith, starts_end 0 w.game.clauses (suc c) (omega (arith, laid_many w.laid))));
      few = rw w.laid.is_literals w.small.few_literals;
      atoms = λ k lt. omega (arith, in_table k lt, w.small.few_atoms);
    };
    atoms = λ k lt. omega (arith, in_table k lt, laid_long w.laid);
  }
    where
      in_table : (k : ℕ) → k < length clauses.literals.now → get_or clauses.literals.now k 0 / 2 < length w.game.atoms
      in_table = rw w.laid.is_literals (clauses_graph w.game.clauses (length w.game.atoms) w.small.heads_in w.small.bodies_in).ends
