-- Laws of the search for an atom of these kinds that depends on one of those.
use mathlib.Core.Path.{◌≡◌, refl, sym, subst, ◌∙◌}
use mathlib.Core.Logic.{◌⊎◌, inl, inr, ◌↔◌}
use mathlib.Core.Bool.{Bool, true, false, ◌&&◌}
use mathlib.Core.List.{List}
use Prim.Native.Nat.{ℕ, zero, suc, ◌≤◌, ◌<◌}
use native.Mathlib.Nat.{not-suc-le-zero}
use native.Mathlib.Omega.{arith}
use lib.Dec.{T, eqb→eq}
use lib.ListN.{length, get_or, length-map, length-replicate}
use Rattle.gdl.specs.Game.{Game, kind_of}
use Rattle.gdl.specs.Flags.{on, bit, blank}
use Rattle.gdl.specs.Graph.{itself, Depends}
use Rattle.gdl.proofs.Tests.{and_left, and_right, and_both, eq→eqb}
use Rattle.edges.specs.Graph.{Drawn}
use Rattle.edges.specs.Closure.{ClosedBack}
use Rattle.edges.specs.Queue.{no_marks}
use Rattle.edges.proofs.Drawing.{clauses_drawn}
use Rattle.edges.proofs.Depending.{OnSeed, closed_back}
use Rattle.rules.specs.Rules.{one_of, Leans}
use Rattle.judge.specs.Arrays.{Sown, HeldEdges, EdgesShaped, Rests, MarksOf}
use Rattle.rules.specs.Judged.{disjoint}
use Rattle.rules.proofs.Finding.{apart}
use Rattle.rules.proofs.Judging.{Exact}
use Rattle.judge.proofs.Holding.{kind_held}

-- ---- seeds

pub no_mark : (n p : ℕ) → get_or (blank n) p 0 ≡ 0
no_mark zero p = refl
no_mark (suc n) zero = refl
no_mark (suc n) (suc p) = no_mark n p

module _ (kinds those : List ℕ) where
  pub sown_start : (r : List ℕ) → r ≡ no_marks → Sown kinds those 0 r
  unfolding no_marks
  sown_start r e = record {
    long = rw e (length-replicate {A = ℕ} 1024 0);
    at = λ p lt. absurd (not-suc-le-zero lt);
    past = λ p le. rw e (no_mark 1024 p);
  }

  pub sown_all : (p : ℕ) (r : List ℕ) → Sown kinds those p r → p ≤ length kinds → length kinds ≤ p → Sown kinds those (length kinds) r
  sown_all p r s le ge = let e : p ≡ length kinds = omega arith in subst (λ (n : ℕ). Sown kinds those n r) e s

  sown_seed : (r : List ℕ) → Sown kinds those (length kinds) r → (p : ℕ) → T (on r p) → (p < length kinds) × T (one_of those (get_or kinds p 0))
  sown_seed r s p t =
      let one : get_or r p 0 ≡ 1 = eqb→eq (get_or r p 0) 1 t in
      let lt : ¬ (length kinds ≤ p) = λ le. omega (arith, s.past p le) in
      let l : p < length kinds = omega arith in
      (l, flag (one_of those (get_or kinds p 0)) (sym (s.at p l) ∙ one))
    where
      flag : (b : Bool) → bit b ≡ 1 → T b
      flag true e = tt
      flag false e = omega arith

  sown_on : (r : List ℕ) → Sown kinds those (length kinds) r → (p : ℕ) → p < length kinds → T (one_of those (get_or kinds p 0)) → T (on r p)
  sown_on r s p lt t = eq→eqb (get_or r p 0) 1 (s.at p lt ∙ flag (one_of those (get_or kinds p 0)) t)
    where
      flag : (b : Bool) → T b → bit b ≡ 1
      flag true t = refl
      flag false t = absurd t

-- ---- the edges of a game

module _ (kinds owners literals : List ℕ) (G : Game) (h : HeldEdges kinds owners literals G) where
  pub kinds_many : length kinds ≡ length G.atoms
  kinds_many = rw h.kinds_are (length-map G.atoms (λ a. a.kind))

  pub held_drawn : Drawn itself G.clauses owners literals (length kinds)
  held_drawn = rw (h.owners_are, h.literals_are, kinds_many) (clauses_drawn G.clauses (length G.atoms) h.limits.heads)

pub seeds_marked : (kinds owners literals those seeds marks : List ℕ) → EdgesShaped kinds owners literals → Sown kinds those (length kinds) seeds → ClosedBack owners literals seeds marks
    → MarksOf (HeldEdges kinds owners literals) those marks
seeds_marked kinds owners literals those seeds marks a s c = record { rests = λ G h p. (λ t. there G h p ((closed G h p).0 t), λ r. (closed G h p).1 (back G h p r)) }
  where
    closed : (G : Game) → HeldEdges kinds owners literals G → (p : ℕ) → T (on marks p) ↔ OnSeed itself G.clauses (on seeds) p
    closed G h = closed_back (held_drawn kinds owners literals G h) seeds marks a.atoms s.long c

    there : (G : Game) → HeldEdges kinds owners literals G → (p : ℕ) → OnSeed itself G.clauses (on seeds) p → Rests those G p
    there G h p o =
        let (lt, k) = sown_seed kinds those seeds s o.seed o.is_seed in
        record { on = o.seed; atom = omega (arith, kinds_many kinds owners literals G h, lt); kind = subst (λ (j : ℕ). T (one_of those j)) (kind_held G kinds h.kinds_are o.seed) k; way = o.way }

    back : (G : Game) → HeldEdges kinds owners literals G → (p : ℕ) → Rests those G p → OnSeed itself G.clauses (on seeds) p
    back G h p r = record {
      seed = r.on;
      is_seed = sown_on kinds those seeds s r.on (omega (arith, kinds_many kinds owners literals G h, r.atom)) (subst (λ (j : ℕ). T (one_of those j)) (sym (kind_held G kinds h.kinds_are r.on)) r.kind);
      way = r.way;
    }

-- ---- an atom of these kinds that leans

-- the test of kinds and marks strikes exactly where the rule is broken: none of these kinds is one of those
pub lean_told : (these those kinds owners literals marks : List ℕ) → T (disjoint these those) → MarksOf (HeldEdges kinds owners literals) those marks
    → (G : Game) → HeldEdges kinds owners literals G → Exact (Leans these those G) (length kinds) (λ p. one_of these (get_or kinds p 0) && on marks p)
lean_told these those kinds owners literals marks d m G h = record {
  inside = λ p b. omega (arith, b.atom, kinds_many kinds owners literals G h);
  strikes = λ p b. and_both (one_of these (get_or kinds p 0)) (on marks p) (subst (λ (k : ℕ). T (one_of these k)) (sym (kind_is p)) b.kind)
      ((m.rests G h p).1 (record { on = b.on; atom = b.other; kind = b.other_kind; way = inr b.depends }));
  broken = λ p lt t. found p lt (subst (λ (k : ℕ). T (one_of these k)) (kind_is p) (and_left (one_of these (get_or kinds p 0)) (on marks p) t))
      ((m.rests G h p).0 (and_right (one_of these (get_or kinds p 0)) (on marks p) t));
}
  where
    kind_is : (p : ℕ) → get_or kinds p 0 ≡ kind_of G p
    kind_is p = kind_held G kinds h.kinds_are p

    found : (p : ℕ) → p < length kinds → T (one_of these (kind_of G p)) → Rests those G p → Leans these those G p
    found p lt t r = go r.way
      where
        go : (p ≡ r.on) ⊎ Depends itself G.clauses p r.on → Leans these those G p
        go (inl e) = absurd (apart these those d (kind_of G p) t (subst (λ (q : ℕ). T (one_of those (kind_of G q))) (sym e) r.kind))
        go (inr w) = record { atom = omega (arith, kinds_many kinds owners literals G h); kind = t; on = r.on; other = r.atom; other_kind = r.kind; depends = w }
