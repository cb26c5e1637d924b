-- The whole check on arrays: the rules in their order, the verdict of an answer, and the levels of an accepted game.
use Rattle.std.specs.Prelude.{◌≡◌, List, [], ◌∷◌, ℕ, ◌≤◌, length, Result, Ok, Err}
use Rattle.refusals.specs.declared.Refusal.{Refusal}
use Rattle.refusals.specs.declared.Refusal.TheVariants.{RoleWithBody, NeverHead, NeverInBody, InitRule, DoesRule, NoLevels, NoRoleFact}
use Rattle.gdl.specs.Game.{Game}
use Rattle.gdl.specs.declared.arrays.AtomArrays.{AtomArrays}
use Rattle.gdl.specs.declared.arrays.ClauseArrays.{ClauseArrays}
use Rattle.gdl.specs.Flags.{blank}
use Rattle.gdl.specs.Layout.{kinds_of, firsts_of, heads_of, starts_from, literals_of, owners_of}
use Rattle.gdl.specs.Graph.{itself}
use Rattle.gdl.specs.Computed.{look}
use Rattle.levels.specs.Numbering.{Top, LeastLevels}
use Rattle.rules.specs.Verdict.{Verdict, unfit, fit}
use Rattle.rules.specs.Rules.{RoleBroken, HeadBroken, BodyBroken, InitBroken, DoesBroken, LevelsBroken, RoleMissing, Lowest, rule◌refuses◌else◌}
use Rattle.rules.specs.Limits.{Limits}
use Rattle.judge.specs.Arrays.{HeldEdges, HeldRoles, EdgesShaped, RolesShaped}

-- ---- rules in a row

-- a rule: the places that break it, and its refusal at a place
pub record Rule : Type 1 where
  pub Broken : Game → ℕ → Type 0
  pub refusal : ℕ → Refusal

-- the verdict by these rules alone: all seven in a row are `Ruled`
abbrev pub RuledIn : List Rule → Game → Verdict → Type 0
RuledIn [] G v = v ≡ fit G
RuledIn (x ∷ rest) G v = (rule x.Broken G refuses x.refusal else RuledIn rest G) v

-- 6 and 7
abbrev pub head_rules : List Rule
head_rules = record { Broken = RoleBroken; refusal = RoleWithBody } ∷ record { Broken = HeadBroken; refusal = NeverHead } ∷ []

-- 8, 9 and 10
abbrev pub use_rules : List Rule
use_rules =
    record { Broken = BodyBroken; refusal = NeverInBody } ∷
    record { Broken = InitBroken; refusal = InitRule } ∷
    record { Broken = DoesBroken; refusal = DoesRule } ∷ []

-- 11 and 12
abbrev pub last_rules : List Rule
last_rules = record { Broken = LevelsBroken; refusal = NoLevels } ∷ record { Broken = RoleMissing; refusal = NoRoleFact } ∷ []

-- what an answer says: a refusal, or the game's own verdict
abbrev pub verdict_of : {A : Type 0} → Game → Result A Refusal → Verdict
verdict_of G (Ok x) = fit G
verdict_of G (Err r) = unfit r

-- the answer of these rules, of whatever game is held
pub record Answers (Held : Game → Type 0) (rules : List Rule) (r : Result (Unit {0}) Refusal) : Type 0 where
  pub ruled : (G : Game) → Held G → RuledIn rules G (verdict_of G r)

-- ---- the whole check

-- these are the arrays and the seats of a game that was read
pub record Held (a : AtomArrays) (c : ClauseArrays) (owners : List ℕ) (seats : ℕ) (G : Game) : Type 0 where
  pub limits : Limits G
  pub kinds_are : a.kinds.now ≡ kinds_of G.atoms
  pub firsts_are : a.firsts.now ≡ firsts_of G.atoms
  pub heads_are : c.heads.now ≡ heads_of G.clauses
  pub starts_are : c.starts.now ≡ starts_from 0 G.clauses
  pub literals_are : c.literals.now ≡ literals_of G.clauses
  pub owners_are : owners ≡ owners_of G.clauses
  pub seats_are : seats ≡ G.seats

pub record HoldsGame (a : AtomArrays) (c : ClauseArrays) (owners : List ℕ) (seats : ℕ) : Type 0 where
  pub game : Game
  pub held : Held a c owners seats game

-- the least allowed levels of a game's atoms in 1,024 places, `top` the first number above them, and 0 past the last atom
pub record Levelled (G : Game) (v : List ℕ) (top : ℕ) : Type 0 where
  pub places : length v ≡ 1024
  pub least : LeastLevels itself G.clauses v
  pub top_is : Top v (length G.atoms) top
  pub past : (p : ℕ) → length G.atoms ≤ p → look v p ≡ 0

-- the levels, or the place of 11
abbrev pub LevelsOr11 : Game → Result ℕ ℕ → List ℕ → Type 0
LevelsOr11 G (Ok top) v = Levelled G v top
LevelsOr11 G (Err p) v = Lowest (LevelsBroken G) p × (v ≡ blank 1024)

pub record LevelsOf (Held : Game → Type 0) (n : Result ℕ ℕ) (v : List ℕ) : Type 0 where
  pub says : (G : Game) → Held G → LevelsOr11 G n v

-- the levels v of a game that is accepted, and the first number above them; else everything is blank
abbrev pub Leaves : Game → Result ℕ Refusal → List ℕ → Type 0
Leaves G (Ok top) v = Levelled G v top
Leaves G (Err r) v = v ≡ blank 1024

-- the verdict, and what is left in the lent room
pub record Judges (Held : Game → Type 0) (Rules : Game → Verdict → Type 0) (j : Result ℕ Refusal) (v : List ℕ) : Type 0 where
  pub ruled : (G : Game) → Held G → Rules G (verdict_of G j)
  pub leaves : (G : Game) → Held G → Leaves G j v

-- the arrays of 11 and 12
pub record HeldLast (a : AtomArrays) (c : ClauseArrays) (owners literals : List ℕ) (seats : ℕ) (G : Game) : Type 0 where
  pub edges : HeldEdges a.kinds.now owners literals G
  pub roles : HeldRoles a c seats G

-- their shape
pub record LastAsked (a : AtomArrays) (c : ClauseArrays) (owners literals : List ℕ) : Type 0 where
  pub edges : EdgesShaped a.kinds.now owners literals
  pub roles : RolesShaped a c
