-- The clauses by their heads, and the atoms of their bodies.
use Rattle.std.specs.Prelude.{◌≡◌, List, ℕ, ◌+◌, ◌/◌, ◌<◌, ◌≤◌, length, get_or, replicate}
use Rattle.gdl.specs.declared.arrays.ClauseArrays.{ClauseArrays}
use Rattle.edges.specs.Uses.{IndexedFrom}

-- h is an atom of the body of clause k
pub record InBody (c : ClauseArrays) (k h : ℕ) : Type 0 where
  pub place : ℕ
  pub from : get_or c.starts.now k 0 ≤ place
  pub to : place < get_or c.starts.now (k + 1) 0
  pub is_atom : get_or c.literals.now place 0 / 2 ≡ h

-- h is a "body atom of a clause whose head" is p
pub record InBodies (c : ClauseArrays) (p h : ℕ) : Type 0 where
  pub clause : ℕ
  pub within : clause < length c.heads.now
  pub is_head : get_or c.heads.now clause 0 ≡ p
  pub in_body : InBody c clause h

-- ---- the index

abbrev pub HeadAt : List ℕ → ℕ → ℕ → Type 0
HeadAt heads p c = get_or heads c 0 ≡ p

-- no clause known yet
unfoldable pub no_clauses : List ℕ
no_clauses = replicate 1024 2048

unfoldable pub no_more_clauses : List ℕ
no_more_clauses = replicate 2048 2048

-- heads below 1,024, and at most 2,048 of them
pub record Heads (heads : List ℕ) : Type 0 where
  pub few : length heads ≤ 2048
  pub atoms : (c : ℕ) → c < length heads → get_or heads c 0 < 1024

-- heads, and an index that knows no clause yet
pub record Unindexed (heads first next : List ℕ) : Type 0 where
  pub is_heads : Heads heads
  pub empty_clauses : first ≡ no_clauses
  pub no_more : next ≡ no_more_clauses

-- the index of the clauses from `low` on, and of all
abbrev pub ClausesFrom : List ℕ → List ℕ → List ℕ → ℕ → Type 0
ClausesFrom heads first next low = IndexedFrom (HeadAt heads) (length heads) 2048 1024 2048 first next low

abbrev pub Indexed : List ℕ → List ℕ → List ℕ → Type 0
Indexed heads first next = ClausesFrom heads first next 0

-- ---- what is asked

-- clauses whose literals name atoms below 1,024
pub record Clauses (c : ClauseArrays) : Type 0 where
  pub is_heads : Heads c.heads.now
  pub long : length c.starts.now ≡ length c.heads.now + 1
  pub rising : (k : ℕ) → k < length c.heads.now → get_or c.starts.now k 0 ≤ get_or c.starts.now (k + 1) 0
  pub ends : (k : ℕ) → k < length c.heads.now → get_or c.starts.now (k + 1) 0 ≤ length c.literals.now
  pub few : length c.literals.now ≤ 8192
  pub atoms : (j : ℕ) → j < length c.literals.now → get_or c.literals.now j 0 / 2 < 1024
