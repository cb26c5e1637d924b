-- Laws of rule 11 on arrays: the levels in 1,024 places, of which the atoms have the first.
use mathlib.Core.Path.{◌≡◌, refl, sym, ap, subst, ◌∙◌}
use mathlib.Core.List.{List, [], ◌∷◌, ◌++◌, Memᴰ}
use Prim.Native.Nat.{ℕ, zero, suc, ◌+◌, ◌≤◌, ◌<◌}
use native.Mathlib.Omega.{arith}
use lib.ListN.{length, take, drop, length-append, length-drop, length-replicate, get_or-eq_default}
use lib.Seq.{length-take-le, get_or-drop, ext_get_or}
use Rattle.gdl.specs.Game.{Clause, Game}
use Rattle.gdl.specs.Standard.{Levels}
use Rattle.gdl.specs.Graph.{itself}
use Rattle.gdl.specs.Flags.{blank}
use Rattle.gdl.specs.Computed.{look}
use Rattle.gdl.proofs.Levelling.{levels_no_cycle}
use Rattle.levels.specs.Numbering.{Answers, Numbers}
use Rattle.std.specs.Prelude.{Result, Ok, Err}
use Rattle.rules.specs.Rules.{LevelsBroken}
use Rattle.judge.specs.Arrays.{HeldEdges, EdgesShaped}
use Rattle.judge.specs.Judgement.{Levelled, LevelsOr11, LevelsOf}
use Rattle.judge.proofs.Marking.{no_mark, kinds_many, held_drawn}

-- a numbering that is the same everywhere is allowed as well
levels_same : (C : List Clause) (ℓ ℓ' : ℕ → ℕ) → ((p : ℕ) → ℓ' p ≡ ℓ p) → Levels C ℓ → Levels C ℓ'
levels_same C ℓ ℓ' e l = record {
  up = λ c m q k. omega (arith, l.up c m q k, e q, e c.head);
  over = λ c m q k. omega (arith, l.over c m q k, e q, e c.head);
}

-- levels in more places, those past the last being 0
more_places : (v : List ℕ) (n p : ℕ) → look (v ++ drop n (blank 1024)) p ≡ look v p
more_places [] n p = get_or-drop n (blank 1024) p 0 ∙ no_mark 1024 (n + p)
more_places (x ∷ v) n zero = refl
more_places (x ∷ v) n (suc p) = more_places v n p

more_long : (v : List ℕ) (n : ℕ) → length v ≡ n → n ≤ 1024 → length (v ++ drop n (blank 1024)) ≡ 1024
more_long v n e le = simp (length-append, length-drop) (omega (arith, length-replicate {A = ℕ} 1024 0))

-- blank levels in more places
more_blank : (v : List ℕ) (n : ℕ) → length v ≡ n → n ≤ 1024 → v ≡ blank (length v) → v ++ drop n (blank 1024) ≡ blank 1024
more_blank v n e le b = ext_get_or 0 _ _ (more_long v n e le ∙ sym (length-replicate {A = ℕ} 1024 0)) (λ p lt. more_places v n p ∙ none p ∙ sym (no_mark 1024 p))
  where
    none : (p : ℕ) → look v p ≡ 0
    none p = subst (λ (w : List ℕ). look w p ≡ 0) (sym b) (no_mark (length v) p)

module _ (kinds owners literals : List ℕ) (s : EdgesShaped kinds owners literals) (old : List ℕ) (e : old ≡ blank 1024) where
  part_long : length (take (length kinds) old) ≡ length kinds
  part_long = length-take-le (length kinds) old (omega (arith, s.atoms, ap length e, length-replicate {A = ℕ} 1024 0))

  pub levels_numbered : (v : List ℕ) (r : Result ℕ ℕ) → Numbers owners literals (take (length kinds) old) v r → LevelsOf (HeldEdges kinds owners literals) r (v ++ drop (length kinds) old)
  levels_numbered v r n = record { says = λ G h. rw e (go G h r (n.answers itself G.clauses (rw part_long (held_drawn kinds owners literals G h)))) }
    where
      go : (G : Game) → HeldEdges kinds owners literals G → (r : Result ℕ ℕ) → Answers itself G.clauses v r → LevelsOr11 G r (v ++ drop (length kinds) (blank 1024))
      go G h (Err p) a = (record { here = a.0.turns; lowest = a.0.lowest }, more_blank v (length kinds) (n.long ∙ part_long) s.atoms a.1)
      go G h (Ok top) a =
          let many : length v ≡ length G.atoms = n.long ∙ part_long ∙ kinds_many kinds owners literals G h in
          record {
            places = more_long v (length kinds) (n.long ∙ part_long) s.atoms;
            least = record {
              allowed = levels_same G.clauses (look v) _ (more_places v (length kinds)) a.0.allowed;
              least = λ ℓ l p. omega (arith, a.0.least ℓ l p, more_places v (length kinds) p);
            };
            top_is = record {
              above = λ p lt. omega (arith, a.1.above p (omega (arith, many)), more_places v (length kinds) p);
              first = λ t k. a.1.first t (λ p lt. omega (arith, k p (omega (arith, many)), more_places v (length kinds) p));
            };
            past = λ p le. more_places v (length kinds) p ∙ get_or-eq_default v 0 (omega (arith, many));
          }

-- where there are levels, no atom turns back
pub levelled_none : (G : Game) (v : List ℕ) (top : ℕ) → ((c : Clause) → Memᴰ c G.clauses → c.head < length G.atoms) → Levelled G v top → (p : ℕ) → LevelsBroken G p → ⊥
levelled_none G v top heads l = (levels_no_cycle itself (length G.atoms) G.clauses heads (look v) l.least.allowed).none
