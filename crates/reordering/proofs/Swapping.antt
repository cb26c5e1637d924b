-- What is said of the clauses of a game as a set passes to a game with the same clauses: edges, dependence, levels, the model, reach.
use mathlib.Core.Path.{◌≡◌}
use mathlib.Core.Logic.{◌⊎◌, inl, inr}
use mathlib.Core.List.{List}
use Prim.Native.Nat.{ℕ, zero, suc}
use Rattle.gdl.specs.Game.{Clause, Game}
use Rattle.gdl.specs.Sets.{Atoms, Closed, Least}
use Rattle.gdl.specs.Standard.{head_of, Levels, Upto}
use Rattle.gdl.specs.Graph.{Edge, Depends, direct, by, TurnsBack}
use Rattle.gdl.specs.Truth.{State, Joint, Model}
use Rattle.gdl.specs.Reach.{Reaches, Reach, Hidden}
use Rattle.reordering.specs.Reordered.{Within, SameClauses, with_clauses}

-- the same, seen from the other game
pub same_back : {C D : List Clause} → SameClauses C D → SameClauses D C
same_back h = record { there = h.back; back = h.there }

-- ---- more clauses: more edges, and fewer sets that are closed

module _ {C D : List Clause} (more : Within C D) (node : ℕ → ℕ) where
  edge_more : {p q : ℕ} → Edge node C p q → Edge node D p q
  edge_more e = record {
    clause = e.clause;
    in_table = more e.clause e.in_table;
    is_head = e.is_head;
    literal = e.literal;
    in_body = e.in_body;
    is_atom = e.is_atom;
  }

  pub depends_more : {p q : ℕ} → Depends node C p q → Depends node D p q
  depends_more (direct e) = direct (edge_more e)
  depends_more (by e d) = by (edge_more e) (depends_more d)

  pub turns_more : {p : ℕ} → TurnsBack node C p → TurnsBack node D p
  turns_more {p} b = record {
    clause = b.clause;
    in_table = more b.clause b.in_table;
    is_head = b.is_head;
    q = b.q;
    in_body = b.in_body;
    back = go b.back;
  }
    where
      go : {x : ℕ} → (x ≡ p) ⊎ Depends node C x p → (x ≡ p) ⊎ Depends node D x p
      go (inl e) = inl e
      go (inr d) = inr (depends_more d)

module _ {C D : List Clause} (more : Within C D) where
  levels_fewer : {ℓ : ℕ → ℕ} → Levels D ℓ → Levels C ℓ
  levels_fewer l = record { up = λ c m. l.up c (more c m); over = λ c m. l.over c (more c m) }

  closed_fewer : {head : Clause → ℕ} {test : Atoms → Clause → _} {F X : Atoms} → Closed head test D F X → Closed head test C F X
  closed_fewer h = record { holds = h.holds; fires = λ c m. h.fires c (more c m) }

  reaches_fewer : (G : Game) {z : ℕ} {X : Atoms} → Reaches (with_clauses D G) z X → Reaches (with_clauses C G) z X
  reaches_fewer G h = record { seeds = h.seeds; shut = record { body = λ c m. h.shut.body c (more c m) }; onward = h.onward }

-- ---- the same clauses: the same model, the same reach

module _ {C D : List Clause} (h : SameClauses C D) where
  least_same : {test : Atoms → Clause → _} {F X : Atoms} → Least head_of test C F X → Least head_of test D F X
  least_same l = record { closed = closed_fewer h.back l.closed; least = λ Y y. l.least Y (closed_fewer h.there y) }

  upto_same : (ℓ : ℕ → ℕ) (F : Atoms) (n : ℕ) (X : Atoms) → Upto C ℓ F n X → Upto D ℓ F n X
  upto_same ℓ F zero X u = u
  upto_same ℓ F (suc n) X u = (u.0, upto_same ℓ F n u.0 u.1, least_same u.2)

  module _ (G : Game) where
    pub model_same : (S : State) (A : Joint) {X : Atoms} → Model (with_clauses C G) S A X → Model (with_clauses D G) S A X
    model_same S A m = record {
      numbering = m.numbering;
      allowed = levels_fewer h.back m.allowed;
      standard = record {
        top = m.standard.top;
        heads = λ c k. m.standard.heads c (h.back c k);
        upto = upto_same m.numbering _ m.standard.top _ m.standard.upto;
      };
    }

    pub reach_same : {z : ℕ} {X : Atoms} → Reach (with_clauses C G) z X → Reach (with_clauses D G) z X
    reach_same r = record { reaches = reaches_fewer h.back G r.reaches; least = λ Y y. r.least Y (reaches_fewer h.there G y) }

-- a move hidden in the one game is hidden in the other
pub hidden_same : {C D : List Clause} → SameClauses C D → (G : Game) {z s m : ℕ} → Hidden (with_clauses C G) z s m → Hidden (with_clauses D G) z s m
hidden_same h G k = record { outside = λ X x. k.outside X (reach_same (same_back h) G x) }
