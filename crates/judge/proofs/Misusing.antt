-- Laws of rule 8 by first uses: where no atom of its kinds has one, no clause breaks it.
use mathlib.Core.Path.{◌≡◌, refl, sym, ap, subst, ◌∙◌}
use mathlib.Core.Bool.{Bool, true, false, ◌&&◌}
use mathlib.Core.List.{List, [], ◌∷◌, Memᴰ}
use Prim.Native.Nat.{ℕ, ◌/◌, ◌≤◌, ◌<◌}
use native.Mathlib.Omega.{arith}
use lib.Dec.{T, ltb, ltb→lt}
use lib.ListN.{length, get_or}
use borrow.Author.Tests.{lt-ltb}
use Rattle.std.specs.Prelude.{None}
use Rattle.std.specs.List.{list_any, zip}
use Rattle.std.proofs.lemmas.List.{get_or_default}
use Rattle.std.proofs.lemmas.List.Folds.{Any-from_list_any, list_any_at}
use Rattle.std.proofs.lemmas.Slice.Zip.{get_or-zip, length-zip}
use Rattle.gdl.proofs.Tests.{and_left, and_right}
use Rattle.gdl.specs.Game.{Clause, Game, init_kind, next_kind, sees_kind, atom_of, clause_at}
use Rattle.gdl.specs.declared.arrays.AtomArrays.{AtomArrays}
use Rattle.gdl.specs.declared.arrays.ClauseArrays.{ClauseArrays}
use Rattle.gdl.specs.Graph.{itself}
use Rattle.gdl.specs.Layout.{code_of, owners_of}
use Rattle.edges.specs.Graph.{Has, end_of}
use Rattle.edges.specs.Uses.{FirstEnd}
use Rattle.edges.specs.declared.Edges.{Edges}
use Rattle.edges.proofs.Drawing.{clauses_drawn}
use Rattle.rules.specs.Rules.{one_of, BodyBroken}
use Rattle.gdl.proofs.Layouts.{code_half, at_mem, mem_at}
use Rattle.judge.specs.Answers.{Searched}
use Rattle.judge.specs.Arrays.{HeldUses, UsesAsked, Misused, AnyMisused}
use Rattle.judge.proofs.Holding.{clauses_held, kind_held, head_held}

abbrev bodyless : List ℕ
bodyless = init_kind ∷ next_kind ∷ sees_kind ∷ []

-- ---- the atoms

-- the test of an atom's kind and first use
abbrev pub misused_pair : ℕ → ℕ × ℕ → Bool
misused_pair many p = ltb p.1 many && one_of bodyless p.0

is_true : (b : Bool) → T b → b ≡ true
is_true true t = refl
is_true false t = absurd t

module _ (kinds first : List ℕ) (many : ℕ) (fits : length kinds ≤ length first) where
  long : length (zip kinds first) ≡ length kinds
  long = omega (arith, length-zip kinds first)

  at : (i : ℕ) → i < length kinds → get_or (zip kinds first) i (0, 0) ≡ (get_or kinds i 0, get_or first i 0)
  at i lt = get_or-zip kinds first i (0, 0) lt (omega arith)

  -- the test of some pair tells whether an atom is misused
  pub any_told : (r : Bool) → r ≡ list_any (misused_pair many) (zip kinds first) → AnyMisused kinds first many r
  any_told true e =
      let s = Any-from_list_any (misused_pair many) (zip kinds first) (sym e) in
      let lt : s.0 < length kinds = omega (arith, s.2, long) in
      let here : s.1 ≡ (get_or kinds s.0 0, get_or first s.0 0) = sym s.3 ∙ get_or_default (zip kinds first) s.0 s.1 (0, 0) s.2 ∙ at s.0 lt in
      let t : T (ltb (get_or first s.0 0) many && one_of bodyless (get_or kinds s.0 0)) = subst (λ p. T (misused_pair many p)) here (subst T (sym s.4) tt) in
      record {
        tells = record {
          atom = s.0;
          within = lt;
          kind = and_right (ltb (get_or first s.0 0) many) (one_of bodyless (get_or kinds s.0 0)) t;
          used = ltb→lt (get_or first s.0 0) many (and_left (ltb (get_or first s.0 0) many) (one_of bodyless (get_or kinds s.0 0)) t);
        };
      }
  any_told false e = record { tells = λ m. none m }
    where
      none : Misused kinds first many → ⊥
      none m =
          let lt : m.atom < length (zip kinds first) = omega (arith, m.within, long) in
          let k : one_of bodyless (get_or kinds m.atom 0) ≡ true = is_true (one_of bodyless (get_or kinds m.atom 0)) m.kind in
          let p : misused_pair many (get_or (zip kinds first) m.atom (0, 0)) ≡ true = rw (at m.atom m.within, lt-ltb (get_or first m.atom 0) many m.used, k) in
          let q : list_any (misused_pair many) (zip kinds first) ≡ true = list_any_at (misused_pair many) (zip kinds first) m.atom (0, 0) lt p in let bad : false ≡ true = e ∙ q in absurd cc

-- ---- the rule

module _ (a : AtomArrays) (c : ClauseArrays) (edges : Edges) (q : UsesAsked a c edges.from.now edges.to.now) where
  firsts : (p : ℕ) → p < 1024 → FirstEnd edges.to.now p 0 (get_or edges.uses.now.first p 0)
  firsts = edges.indexed.chained.firsts

  pub none_misused : AnyMisused a.kinds.now edges.uses.now.first (length edges.to.now) false → Searched (HeldUses a c edges.from.now edges.to.now) BodyBroken None
  none_misused m = record { finds = λ G h p x. m.tells (found G h p x) }
    where
      fit : (G : Game) → HeldUses a c edges.from.now edges.to.now G → (k : Clause) → Memᴰ k G.clauses → k.head < length a.kinds.now
      fit G h k m =
          let (i, lt, z) = mem_at (record { head = 0; body = [] }) G.clauses k m in
          omega (arith, q.shaped.head_atoms i (omega (arith, clauses_held G a c h.clauses, lt)), head_held G c.heads.now h.clauses.heads_are i, ap (λ (y : Clause). y.head) z)

      found : (G : Game) → HeldUses a c edges.from.now edges.to.now G → (p : ℕ) → BodyBroken G p → Misused a.kinds.now edges.uses.now.first (length edges.to.now)
      found G h p x =
          let s : Has (owners_of G.clauses) edges.to.now (clause_at G p).head (code_of x.literal) =
          subst (λ (y : List ℕ). Has (owners_of G.clauses) y (clause_at G p).head (code_of x.literal)) (sym h.edges.literals_are)
          ((clauses_drawn G.clauses (length a.kinds.now) (fit G h)).whole (clause_at G p) (at_mem _ G.clauses p x.clause) x.literal x.in_body) in
          let z : end_of edges.to.now s.k ≡ atom_of x.literal = ap (λ (y : ℕ). y / 2) s.literal ∙ code_half itself x.literal in
          let w : atom_of x.literal < length a.kinds.now = omega (arith, q.edges.graph.ends s.k s.within, z) in
          record {
            atom = atom_of x.literal;
            within = w;
            kind = subst (λ (y : ℕ). T (one_of bodyless y)) (sym (kind_held G a.kinds.now h.clauses.kinds_are (atom_of x.literal))) x.kind;
            used = omega (arith, (firsts (atom_of x.literal) (omega (arith, q.edges.atoms))).lowest s.k (omega arith) s.within z, s.within);
          }
