-- Arrays that hold a game, and the shape that each search asks of them.
use Rattle.std.specs.Prelude.{◌≡◌, ◌⊎◌, ◌↔◌, Bool, ◌&&◌, List, [], ◌∷◌, map, ℕ, ◌+◌, ◌-◌, ◌/◌, ◌≤◌, ◌<◌, T, eqb, ltb, length, get_or, take, drop}
use Rattle.gdl.specs.Game.{Game, role_kind, init_kind, true_kind, does_kind, next_kind, sees_kind, kind_of}
use Rattle.gdl.specs.Kinds.{kind_number}
use Rattle.gdl.specs.declared.kinds.Kind.{Kind}
use Rattle.gdl.specs.declared.arrays.AtomArrays.{AtomArrays}
use Rattle.gdl.specs.declared.arrays.ClauseArrays.{ClauseArrays}
use Rattle.gdl.specs.Layout.{kinds_of, firsts_of, heads_of, starts_from, literals_of, owners_of}
use Rattle.gdl.specs.Flags.{on, bit}
use Rattle.gdl.specs.Graph.{itself, Depends}
use Rattle.edges.specs.Graph.{Graph}
use Rattle.rules.specs.Rules.{some, one_of}
use Rattle.rules.specs.Limits.{Limits}
use Rattle.judge.specs.Answers.{Tells}

-- the numbers of some kinds
abbrev pub numbers : List Kind → List ℕ
numbers these = map kind_number these

-- ---- clauses: 6, 7 and 8

-- these are the kinds of a game's atoms, and its clauses
pub record HeldClauses (a : AtomArrays) (c : ClauseArrays) (G : Game) : Type 0 where
  pub kinds_are : a.kinds.now ≡ kinds_of G.atoms
  pub heads_are : c.heads.now ≡ heads_of G.clauses
  pub starts_are : c.starts.now ≡ starts_from 0 G.clauses
  pub literals_are : c.literals.now ≡ literals_of G.clauses

-- literals over atoms that have kinds
pub record LiteralsOver (kinds literals : List ℕ) : Type 0 where
  pub atoms : (k : ℕ) → k < length literals → get_or literals k 0 / 2 < length kinds

-- clauses one after another, over atoms that have kinds
pub record ClausesShaped (a : AtomArrays) (c : ClauseArrays) : Type 0 where
  pub long : length c.starts.now ≡ length c.heads.now + 1
  pub rising : (i : ℕ) → i < length c.heads.now → get_or c.starts.now i 0 ≤ get_or c.starts.now (i + 1) 0
  pub ends : (i : ℕ) → i < length c.heads.now → get_or c.starts.now (i + 1) 0 ≤ length c.literals.now
  pub head_atoms : (i : ℕ) → i < length c.heads.now → get_or c.heads.now i 0 < length a.kinds.now
  pub body_atoms : LiteralsOver a.kinds.now c.literals.now

-- one of these clauses
pub record ClauseAsked (a : AtomArrays) (c : ClauseArrays) (i : ℕ) : Type 0 where
  pub shaped : ClausesShaped a c
  pub clause : i < length c.heads.now

-- the tests of 6, 7 and 8 at clause i
abbrev pub head_kind : AtomArrays → ClauseArrays → ℕ → ℕ
head_kind a c i = get_or a.kinds.now (get_or c.heads.now i 0) 0

abbrev pub role_with_body : AtomArrays → ClauseArrays → ℕ → Bool
role_with_body a c i = eqb (head_kind a c i) role_kind && ltb (get_or c.starts.now i 0) (get_or c.starts.now (i + 1) 0)

abbrev pub never_head : AtomArrays → ClauseArrays → ℕ → Bool
never_head a c i = one_of (true_kind ∷ does_kind ∷ []) (head_kind a c i)

abbrev pub body_at : List ℕ → List ℕ → ℕ → List ℕ
body_at starts literals i = take (get_or starts (i + 1) 0 - get_or starts i 0) (drop (get_or starts i 0) literals)

abbrev pub never_in_body : AtomArrays → ClauseArrays → ℕ → Bool
never_in_body a c i = some (λ x. one_of (init_kind ∷ next_kind ∷ sees_kind ∷ []) (get_or a.kinds.now (x / 2) 0)) (body_at c.starts.now c.literals.now i)

-- an atom that never stands in a body has a use among so many literals
pub record Misused (kinds first : List ℕ) (many : ℕ) : Type 0 where
  pub atom : ℕ
  pub within : atom < length kinds
  pub kind : T (one_of (init_kind ∷ next_kind ∷ sees_kind ∷ []) (get_or kinds atom 0))
  pub used : get_or first atom 0 < many

-- whether there is one
pub record AnyMisused (kinds first : List ℕ) (many : ℕ) (r : Bool) : Type 0 where
  pub tells : Tells (Misused kinds first many) r

-- ---- seats: 12

-- these are the kinds and first fields of a game's atoms, the heads of its clauses, and the number of its seats
pub record HeldRoles (a : AtomArrays) (c : ClauseArrays) (seats : ℕ) (G : Game) : Type 0 where
  pub limits : Limits G
  pub kinds_are : a.kinds.now ≡ kinds_of G.atoms
  pub firsts_are : a.firsts.now ≡ firsts_of G.atoms
  pub heads_are : c.heads.now ≡ heads_of G.clauses
  pub seats_are : seats ≡ G.seats

-- heads that are atoms, with a kind and a first field
pub record RolesShaped (a : AtomArrays) (c : ClauseArrays) : Type 0 where
  pub same : length a.firsts.now ≡ length a.kinds.now
  pub atoms : (i : ℕ) → i < length c.heads.now → get_or c.heads.now i 0 < length a.kinds.now

-- an atom, with its kind and first field
pub record RoleAsked (a : AtomArrays) (p : ℕ) : Type 0 where
  pub kind : p < length a.kinds.now
  pub first : p < length a.firsts.now

-- p is the role atom of seat s
abbrev pub role_of : AtomArrays → ℕ → ℕ → Bool
role_of a s p = eqb (get_or a.kinds.now p 0) role_kind && eqb (get_or a.firsts.now p 0) s

-- ---- dependence: 9 and 10

-- these are the kinds of a game's atoms, and the edges of its graph
pub record HeldEdges (kinds owners literals : List ℕ) (G : Game) : Type 0 where
  pub limits : Limits G
  pub kinds_are : kinds ≡ kinds_of G.atoms
  pub owners_are : owners ≡ owners_of G.clauses
  pub literals_are : literals ≡ literals_of G.clauses

-- edges between atoms that have kinds
pub record EdgesShaped (kinds owners literals : List ℕ) : Type 0 where
  pub graph : Graph owners literals (length kinds)
  pub atoms : length kinds ≤ 1024
  pub few : length literals ≤ 8192

-- the arrays of 8, 9 and 10
pub record HeldUses (a : AtomArrays) (c : ClauseArrays) (owners literals : List ℕ) (G : Game) : Type 0 where
  pub clauses : HeldClauses a c G
  pub edges : HeldEdges a.kinds.now owners literals G

-- their shape
pub record UsesAsked (a : AtomArrays) (c : ClauseArrays) (owners literals : List ℕ) : Type 0 where
  pub shaped : ClausesShaped a c
  pub edges : EdgesShaped a.kinds.now owners literals

-- p is of one of those kinds, or depends on an atom that is
pub record Rests (those : List ℕ) (G : Game) (p : ℕ) : Type 0 where
  pub on : ℕ
  pub atom : on < length G.atoms
  pub kind : T (one_of those (kind_of G on))
  pub way : (p ≡ on) ⊎ Depends itself G.clauses p on

-- a mark for each that does
pub record MarksOf (Held : Game → Type 0) (those marks : List ℕ) : Type 0 where
  pub rests : (G : Game) → Held G → (p : ℕ) → T (on marks p) ↔ Rests those G p

-- a seed for each of the first n atoms that is of one of those kinds
pub record Sown (kinds those : List ℕ) (n : ℕ) (r : List ℕ) : Type 0 where
  pub long : length r ≡ 1024
  pub at : (p : ℕ) → p < n → get_or r p 0 ≡ bit (one_of those (get_or kinds p 0))
  pub past : (p : ℕ) → n ≤ p → get_or r p 0 ≡ 0
