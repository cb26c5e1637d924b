-- The reach law for positions: on a set that holds what reaches a seat, the model depends on the position and the joint choice only as far
-- as their atoms are in the set. So the seat reads the same where they differ only in what does not reach it.
use mathlib.Core.Path.{◌≡◌, ap₂}
use mathlib.Core.Logic.{◌⊎◌, ⊎_elim}
use mathlib.Core.Bool.{Bool, ◌&&◌, ◌||◌}
use mathlib.Core.List.{List}
use Prim.Native.Nat.{ℕ, ◌<◌}
use lib.Dec.{T, eqb, ltb, ltb→lt, eqb_refl}
use lib.ListN.{length}
use Rattle.gdl.specs.Game.{Atom, Game, true_kind, does_kind, legal_kind, next_kind, init_kind, sees_kind, terminal_kind, goal_kind, atom_at, is_kind, is_atom}
use Rattle.gdl.specs.Sets.{Atoms}
use Rattle.gdl.specs.Truth.{State, Joint, is_fact, facts_of, Model}
use Rattle.gdl.specs.Reach.{is_seed, Shut, Reaches, Reach, Hidden}
use Rattle.gdl.specs.Valid.{Valid}
use Rattle.gdl.specs.Flags.{on}
use Rattle.gdl.specs.Computed.{did, model, any_of}
use Rattle.gdl.proofs.Tests.{and_left, and_elim, and_both, and_agree, or_left, or_right, same}
use Rattle.gdl.proofs.Stable.{standard_stable, reach}
use Rattle.gdl.proofs.Reading.{any_agree}
use Rattle.gdl.proofs.Modelled.{model_is}

module _ (G : Game) (X : Atoms) where
  -- two positions agree on the fluents whose true atom is in X
  pub record Alike (S S' : State) : Type 0 where
    pub agree : (f p : ℕ) → p < length G.atoms → T (is_kind true_kind f (atom_at G p)) → T (X p) → S f ≡ S' f

  -- two joint choices differ only in moves whose does atoms are not in X
  pub record HiddenDiffer (A A' : Joint) : Type 0 where
    pub seen : (s m p : ℕ) → p < length G.atoms → T (is_atom does_kind s m (atom_at G p)) → T (X p) → A s m ≡ A' s m

  module _ (S S' : State) (A A' : Joint) (near : Alike S S') (apart : HiddenDiffer A A') where
    pub facts_agree : (p : ℕ) → T (X p) → facts_of G S A p ≡ facts_of G S' A' p
    facts_agree p r = and_agree (ltb p (length G.atoms)) (is_fact S A a) (is_fact S' A' a) (λ h.
        let lt : p < length G.atoms = ltb→lt p (length G.atoms) h in
        ap₂ ◌||◌
        (and_agree (eqb a.kind true_kind) (S a.first) (S' a.first)
        (λ k. near.agree a.first p lt (and_both (eqb a.kind true_kind) (eqb a.first a.first) k (eqb_refl a.first)) r))
        (and_agree (eqb a.kind does_kind) (A a.first a.second) (A' a.first a.second)
        (λ k. apart.seen a.first a.second p lt (and_both (eqb a.kind does_kind) (eqb a.first a.first && eqb a.second a.second) k
        (and_both (eqb a.first a.first) (eqb a.second a.second) (eqb_refl a.first) (eqb_refl a.second))) r)))
      where
        a : Atom
        a = atom_at G p

    pub models_agree : Shut G.clauses X → (M M' : Atoms) → Model G S A M → Model G S' A' M' → (p : ℕ) → T (X p) → M p ≡ M' p
    models_agree shut M M' m m' = reach G.clauses m.numbering m.allowed X shut (facts_of G S A) (facts_of G S' A') M M'
        (standard_stable G.clauses m.numbering m.allowed (facts_of G S A) M m.standard)
        (standard_stable G.clauses m'.numbering m'.allowed (facts_of G S' A') M' m'.standard) facts_agree

-- where each seat's move is the same in both, or hidden from seat z in both
pub hidden_differ : (G : Game) (z : ℕ) (X : Atoms) → Reach G z X → (A A' : Joint)
    → ((s : ℕ) → ((m : ℕ) → A s m ≡ A' s m) ⊎ (((m : ℕ) → T (A s m) → Hidden G z s m) × ((m : ℕ) → T (A' s m) → Hidden G z s m)))
    → HiddenDiffer G X A A'
hidden_differ G z X x A A' each = record {
  seen = λ s m p lt named r. ⊎_elim (λ e. e m)
      (λ h. same (A s m) (A' s m) (λ t. absurd ((h.0 m t).outside X x p lt named r)) (λ t. absurd ((h.1 m t).outside X x p lt named r))) (each s);
}

-- ---- what a seat reads

first_of : (k x y : ℕ) (a : Atom) → T (is_atom k x y a) → T (is_kind k x a)
first_of k x y a = and_elim (eqb a.kind k) (eqb a.first x && eqb a.second y)
    (λ s t. and_both (eqb a.kind k) (eqb a.first x) s (and_left (eqb a.first x) (eqb a.second y) t))

module _ (z : ℕ) (a : Atom) where
  abbrev is_sees : Bool
  is_sees = is_kind sees_kind z a

  abbrev is_legal : Bool
  is_legal = is_kind legal_kind z a

  abbrev is_goal : Bool
  is_goal = is_kind goal_kind z a

  abbrev is_end : Bool
  is_end = eqb a.kind terminal_kind

  end_seed : T is_end → T (is_seed z a)
  end_seed t = or_right is_sees (is_legal || (is_goal || is_end)) (or_right is_legal (is_goal || is_end) (or_right is_goal is_end t))

  sees_seed : T is_sees → T (is_seed z a)
  sees_seed t = or_left is_sees (is_legal || (is_goal || is_end)) t

  legal_seed : T is_legal → T (is_seed z a)
  legal_seed t = or_right is_sees (is_legal || (is_goal || is_end)) (or_left is_legal (is_goal || is_end) t)

  goal_seed : T is_goal → T (is_seed z a)
  goal_seed t = or_right is_sees (is_legal || (is_goal || is_end)) (or_right is_legal (is_goal || is_end) (or_left is_goal is_end t))

module _ (G : Game) (v : Valid G) (z : ℕ) (X : Atoms) (ρ : Reaches G z X) where
  module _ (pos pos' ch ch' : List ℕ) (near : Alike G X (on pos) (on pos')) (apart : HiddenDiffer G X (did ch) (did ch')) where
    pub model_agree : (p : ℕ) → T (X p) → on (model G pos ch) p ≡ on (model G pos' ch') p
    model_agree = models_agree G X (on pos) (on pos') (did ch) (did ch') near apart ρ.shut (on (model G pos ch)) (on (model G pos' ch')) (model_is G v pos ch) (model_is G v pos' ch')

    -- the models of both have the atom of this kind and these fields, or neither has
    abbrev Same : ℕ → ℕ → ℕ → Type 0
    Same k x y = any_of (is_atom k x y) G.atoms (on (model G pos ch)) ≡ any_of (is_atom k x y) G.atoms (on (model G pos' ch'))

    pub read_agree : (k x y : ℕ) → ((p : ℕ) → p < length G.atoms → T (is_atom k x y (atom_at G p)) → T (X p)) → Same k x y
    read_agree k x y inside = any_agree (is_atom k x y) _ G.atoms (on (model G pos ch)) (on (model G pos' ch')) (λ p lt t. model_agree p (inside p lt t))

    pub sees_agree : (e : ℕ) → Same sees_kind z e
    sees_agree e = read_agree sees_kind z e (λ p lt t. ρ.seeds p lt (sees_seed z (atom_at G p) (first_of sees_kind z e (atom_at G p) t)))

    pub legal_agree : (m : ℕ) → Same legal_kind z m
    legal_agree m = read_agree legal_kind z m (λ p lt t. ρ.seeds p lt (legal_seed z (atom_at G p) (first_of legal_kind z m (atom_at G p) t)))

    pub goal_agree : (n : ℕ) → Same goal_kind z n
    goal_agree n = read_agree goal_kind z n (λ p lt t. ρ.seeds p lt (goal_seed z (atom_at G p) (first_of goal_kind z n (atom_at G p) t)))

    pub end_agree : Same terminal_kind 0 0
    end_agree = read_agree terminal_kind 0 0 (λ p lt t. ρ.seeds p lt (end_seed z (atom_at G p) (and_left (eqb (atom_at G p).kind terminal_kind) (eqb (atom_at G p).first 0 && eqb (atom_at G p).second 0) t)))

    -- what is next for a fluent that reaches the seat
    pub next_agree : (f p : ℕ) → p < length G.atoms → T (is_kind true_kind f (atom_at G p)) → T (X p) → Same next_kind f 0
    next_agree f p pl t r = read_agree next_kind f 0 (λ q ql u. ρ.onward f p q pl ql t
        (or_left (is_kind next_kind f (atom_at G q)) (is_kind init_kind f (atom_at G q)) (first_of next_kind f 0 (atom_at G q) u)) r)
