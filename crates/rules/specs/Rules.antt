-- "The rules of a valid table", each as the places that break it; and the verdict by them, the whole table for one rule before the next.
use Rattle.std.specs.Prelude.{◌≡◌, ◌⊎◌, Bool, false, ◌||◌, ℕ, ◌<◌, T, eqb, length}
use mathlib.Core.List.{List, [], ◌∷◌, Memᴰ}
use Rattle.refusals.specs.declared.Refusal.{Refusal}
use Rattle.refusals.specs.declared.Refusal.TheVariants.{RoleWithBody, NeverHead, NeverInBody, InitRule, DoesRule, NoLevels, NoRoleFact}
use Rattle.gdl.specs.Game.{Literal, atom_of, Clause, Game, role_kind, init_kind, true_kind, does_kind, legal_kind, next_kind, sees_kind, terminal_kind, goal_kind, is_atom, atom_at, clause_at, kind_of}
use Rattle.gdl.specs.Standard.{Levels}
use Rattle.gdl.specs.Graph.{itself, Depends, TurnsBack}
use Rattle.table.specs.Parse.{Parse, ok, fault}
use Rattle.table.specs.Table.{table}
use Rattle.rules.specs.Verdict.{Verdict, unfit, fit}

-- some element passes
abbrev pub some : {A : Type 0} → (A → Bool) → List A → Bool
some f [] = false
some f (x ∷ xs) = f x || some f xs

-- k is one of these
abbrev pub one_of : List ℕ → ℕ → Bool
one_of these k = some (eqb k) these

-- ---- the places that break each rule

-- "A clause whose head is a role atom has no literals."
pub record RoleBroken (G : Game) (i : ℕ) : Type 0 where
  pub clause : i < length G.clauses
  pub role : kind_of G (clause_at G i).head ≡ role_kind
  pub literals : (clause_at G i).body ≡ [] → ⊥

-- "true and does atoms are never heads."
pub record HeadBroken (G : Game) (i : ℕ) : Type 0 where
  pub clause : i < length G.clauses
  pub head : T (one_of (true_kind ∷ does_kind ∷ []) (kind_of G (clause_at G i).head))

-- "init, next and sees atoms never stand in a body."
pub record BodyBroken (G : Game) (i : ℕ) : Type 0 where
  pub clause : i < length G.clauses
  pub literal : Literal
  pub in_body : Memᴰ literal (clause_at G i).body
  pub kind : T (one_of (init_kind ∷ next_kind ∷ sees_kind ∷ []) (kind_of G (atom_of literal)))

-- atom p, of one of these kinds, depends on an atom of one of those
pub record Leans (these those : List ℕ) (G : Game) (p : ℕ) : Type 0 where
  pub atom : p < length G.atoms
  pub kind : T (one_of these (kind_of G p))
  pub on : ℕ
  pub other : on < length G.atoms
  pub other_kind : T (one_of those (kind_of G on))
  pub depends : Depends itself G.clauses p on

-- "No init atom depends on a true, does, legal, terminal or goal atom."
abbrev pub InitBroken : Game → ℕ → Type 0
InitBroken = Leans (init_kind ∷ []) (true_kind ∷ does_kind ∷ legal_kind ∷ terminal_kind ∷ goal_kind ∷ [])

-- "No legal, terminal or goal atom depends on a does atom."
abbrev pub DoesBroken : Game → ℕ → Type 0
DoesBroken = Leans (legal_kind ∷ terminal_kind ∷ goal_kind ∷ []) (does_kind ∷ [])

-- "no levels": "p with a negative edge to a q that is p or depends on p"
abbrev pub LevelsBroken : Game → ℕ → Type 0
LevelsBroken G = TurnsBack itself G.clauses

-- "Every seat's role atom is in the table and is the head of a clause."
pub record RoleFact (G : Game) (s : ℕ) : Type 0 where
  pub clause : Clause
  pub in_table : Memᴰ clause G.clauses
  pub is_role : T (is_atom role_kind s 0 (atom_at G clause.head))

pub record RoleMissing (G : Game) (s : ℕ) : Type 0 where
  pub seat : s < G.seats
  pub none : RoleFact G s → ⊥

-- ---- the verdict

-- "lowest"
pub record Lowest (Broken : ℕ → Type 0) (p : ℕ) : Type 0 where
  pub here : Broken p
  pub lowest : (q : ℕ) → q < p → Broken q → ⊥

-- a rule's refusal at the lowest place that breaks it; where none does, what the later rules say
infixr 10 rule◌refuses◌else◌
abbrev pub rule◌refuses◌else◌ : (ℕ → Type 0) → (ℕ → Refusal) → (Verdict → Type 0) → Verdict → Type 0
(rule Broken refuses r else Later) v = ((p : ℕ) × Lowest Broken p × (v ≡ unfit (r p))) ⊎ (((p : ℕ) → Broken p → ⊥) × Later v)

-- "5 to 12 follow in this order"
abbrev pub Ruled : Game → Verdict → Type 0
Ruled G =
    rule RoleBroken G refuses RoleWithBody else
    rule HeadBroken G refuses NeverHead else
    rule BodyBroken G refuses NeverInBody else
    rule InitBroken G refuses InitRule else
    rule DoesBroken G refuses DoesRule else
    rule LevelsBroken G refuses NoLevels else
    rule RoleMissing G refuses NoRoleFact else
    (λ v. v ≡ fit G)

abbrev pub JudgedOf : Parse Game → Verdict → Type 0
JudgedOf (fault f) v = v ≡ unfit f
JudgedOf (ok G n) v = Ruled G v

-- the verdict on the bytes of a table
abbrev pub Judged : List ℕ → Verdict → Type 0
Judged s v = JudgedOf (table s 0) v

-- ---- a valid table, in the page's own words and order

pub record ValidTable (G : Game) : Type 0 where
  -- "A clause whose head is a role atom has no literals."
  pub roles_bare : (c : Clause) → Memᴰ c G.clauses → kind_of G c.head ≡ role_kind → c.body ≡ []
  -- "true and does atoms are never heads."
  pub never_heads : (c : Clause) → Memᴰ c G.clauses → T (one_of (true_kind ∷ does_kind ∷ []) (kind_of G c.head)) → ⊥
  -- "init, next and sees atoms never stand in a body."
  pub never_in_bodies : (c : Clause) → Memᴰ c G.clauses → (x : Literal) → Memᴰ x c.body → T (one_of (init_kind ∷ next_kind ∷ sees_kind ∷ []) (kind_of G (atom_of x))) → ⊥
  -- "No init atom depends on a true, does, legal, terminal or goal atom."
  pub init_rule : (p : ℕ) → InitBroken G p → ⊥
  -- "No legal, terminal or goal atom depends on a does atom."
  pub does_rule : (p : ℕ) → DoesBroken G p → ⊥
  -- "There is a numbering of the atoms by levels with each head at least as high as its unnegated body atoms, of any kind, and higher than its negated ones."
  pub numbering : ℕ → ℕ
  pub levels : Levels G.clauses numbering
  -- "Every seat's role atom is in the table and is the head of a clause."
  pub role_facts : (s : ℕ) → s < G.seats → RoleFact G s
