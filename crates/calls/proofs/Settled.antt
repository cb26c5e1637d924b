-- What rule 10 comes to: no move changes which moves are legal, whether the game is over, or the goals. So one model will do for play.
use mathlib.Core.Path.{◌≡◌, refl, sym, ap, subst, ◌∙◌}
use mathlib.Core.Logic.{◌⊎◌, inl, inr}
use mathlib.Core.Bool.{◌&&◌}
use mathlib.Core.List.{List, [], ◌∷◌}
use Prim.Native.Nat.{ℕ, ◌<◌}
use lib.Dec.{T, eqb, eqb→eq}
use lib.ListN.{length}
use Rattle.gdl.specs.Game.{Literal, atom_of, Clause, Game, does_kind, legal_kind, terminal_kind, goal_kind, is_atom, atom_at, kind_of}
use Rattle.gdl.specs.Sets.{Atoms}
use Rattle.gdl.specs.Graph.{itself, Edge, Depends, direct, by}
use Rattle.gdl.specs.Reach.{Shut}
use Rattle.gdl.specs.Flags.{on}
use Rattle.gdl.specs.Computed.{did, above, model}
use Rattle.gdl.proofs.Tests.{and_left}
use Rattle.gdl.proofs.Reading.{any_agree}
use Rattle.gdl.proofs.Depending.{above_self, above_sound, above_complete}
use Rattle.gdl.proofs.Modelled.{model_is}
use Rattle.gdl.proofs.Agreeing.{models_agree}
use Rattle.rules.specs.Rules.{one_of}
use Rattle.rules.specs.Accepted.{Accepted}
use Rattle.calls.specs.Position.{atom_in, still}

-- one edge more at the end of a path
onto : (C : List Clause) (p q r : ℕ) → Depends itself C p q → Edge itself C q r → Depends itself C p r
onto C p q r (direct e) f = by e (direct f)
onto C p q r (by {q = m} e d) f = by e (onto C m q r d f)

module _ (G : Game) (ok : Accepted G) (p : ℕ) (lt : p < length G.atoms) where
  -- what p is or depends on
  abbrev Below : Atoms
  Below q = on (above itself G.clauses (length G.atoms) q) p

  below_sound : (q : ℕ) → T (Below q) → (p ≡ q) ⊎ Depends itself G.clauses p q
  below_sound q = above_sound itself (length G.atoms) G.clauses ok.valid.heads q p

  below_shut : Shut G.clauses Below
  below_shut = record {
    body = λ c m t x i.
        let e : Edge itself G.clauses c.head (atom_of x) = record { clause = c; in_table = m; is_head = refl; literal = x; in_body = i; is_atom = refl } in
        above_complete itself (length G.atoms) G.clauses ok.valid.heads (atom_of x) (ok.valid.bodies c m x i) p (reach c x e (below_sound c.head t));
  }
    where
      reach : (c : Clause) (x : Literal) → Edge itself G.clauses c.head (atom_of x) → (p ≡ c.head) ⊎ Depends itself G.clauses p c.head → Depends itself G.clauses p (atom_of x)
      reach c x e (inl s) = direct (subst (λ (h : ℕ). Edge itself G.clauses h (atom_of x)) (sym s) e)
      reach c x e (inr d) = onto G.clauses p c.head (atom_of x) d e

  -- rule 10, of an atom of a kind that no move may change
  module _ (k : T (one_of (legal_kind ∷ terminal_kind ∷ goal_kind ∷ []) (kind_of G p))) where
    no_does : (q : ℕ) → q < length G.atoms → kind_of G q ≡ does_kind → T (Below q) → ⊥
    no_does q ql d t = go (below_sound q t)
      where
        go : (p ≡ q) ⊎ Depends itself G.clauses p q → ⊥
        go (inl s) = subst (λ (x : ℕ). T (one_of (legal_kind ∷ terminal_kind ∷ goal_kind ∷ []) x)) (ap (kind_of G) s ∙ d) k
        go (inr e) = ok.rules.does_rule p (record { atom = lt; kind = k; on = q; other = ql; other_kind = subst (λ (x : ℕ). T (one_of (does_kind ∷ []) x)) (sym d) tt; depends = e })

    atom_settled : (pos ch : List ℕ) → on (model G pos ch) p ≡ on (model G pos []) p
    atom_settled pos ch = models_agree G Below (on pos) (on pos) (did ch) (did []) (record { agree = λ f q l t x. refl })
        (record { seen = λ s m q l t x. absurd (no_does q l (eqb→eq (kind_of G q) does_kind (and_left (eqb (kind_of G q) does_kind) (eqb (atom_at G q).first s && eqb (atom_at G q).second m) t)) x) })
        below_shut (on (model G pos ch)) (on (model G pos [])) (model_is G ok.valid pos ch) (model_is G ok.valid pos [])
        p (above_self itself (length G.atoms) G.clauses ok.valid.heads p lt)

pub settled : (G : Game) → Accepted G → (pos ch : List ℕ) (k x y : ℕ) → T (one_of (legal_kind ∷ terminal_kind ∷ goal_kind ∷ []) k)
    → atom_in G (on (model G pos ch)) k x y ≡ atom_in G (on (still G pos)) k x y
unfolding still
settled G ok pos ch k x y t = any_agree (is_atom k x y) _ G.atoms (on (model G pos ch)) (on (model G pos [])) (λ p lt h.
    let e : kind_of G p ≡ k = eqb→eq (kind_of G p) k (and_left (eqb (kind_of G p) k) (eqb (atom_at G p).first x && eqb (atom_at G p).second y) h) in
    atom_settled G ok p lt (subst (λ (z : ℕ). T (one_of (legal_kind ∷ terminal_kind ∷ goal_kind ∷ []) z)) (sym e) t) pos ch)
