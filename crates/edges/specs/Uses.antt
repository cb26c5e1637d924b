-- Chains of uses: for each node the places that use it, as a chain of rising numbers; and the index of edges by the node at which they end.
use Rattle.std.specs.Prelude.{◌≡◌, List, ℕ, suc, ◌<◌, ◌≤◌, length, get_or, set, replicate}
use Rattle.edges.specs.Graph.{end_of}
use Rattle.edges.specs.Closure.{Sized}

-- ---- any places that use nodes: so many places, and a number `past` them that says 'no more'

module _ (Use : ℕ → ℕ → Type 0) (many past : ℕ) where
  -- k is the lowest place from `low` on that uses a, or `past` where there is none
  pub record FirstUse (a low k : ℕ) : Type 0 where
    pub from : low ≤ k
    pub uses : k < many → Use a k
    pub none : many ≤ k → k ≡ past
    pub lowest : (j : ℕ) → low ≤ j → j < many → Use a j → k ≤ j

  -- the uses from `low` on of the nodes below `nodes`: `first` of a node, then `next` of each use
  pub record Chained (nodes : ℕ) (first next : List ℕ) (low : ℕ) : Type 0 where
    pub firsts : (a : ℕ) → a < nodes → FirstUse a low (get_or first a 0)
    pub nexts : (a k : ℕ) → a < nodes → low ≤ k → k < many → Use a k → FirstUse a (suc k) (get_or next k 0)

  -- the places from `low` on are indexed, in arrays for so many nodes and places
  pub record IndexedFrom (nodes width : ℕ) (first next : List ℕ) (low : ℕ) : Type 0 where
    pub within : low ≤ many
    pub chained : Chained nodes first next low
    pub first_long : length first ≡ nodes
    pub next_long : length next ≡ width
    pub rest : (k : ℕ) → many ≤ k → k < width → get_or next k 0 ≡ past

-- a place was put before those that use the node already
pub record Put (node place : ℕ) (first next first' next' : List ℕ) : Type 0 where
  pub firsts : first' ≡ set first node place
  pub nexts : next' ≡ set next place (get_or first node 0)

-- ---- the ends of edges

abbrev pub EndsAt : List ℕ → ℕ → ℕ → Type 0
EndsAt to a k = end_of to k ≡ a

-- k is the lowest edge from `low` on that ends at a, or 8,192
abbrev pub FirstEnd : List ℕ → ℕ → ℕ → ℕ → Type 0
FirstEnd to a low k = FirstUse (EndsAt to) (length to) 8192 a low k

-- nodes below 1,024, and at most 8,192 edges
pub record Ends (to : List ℕ) : Type 0 where
  pub nodes : (k : ℕ) → k < length to → end_of to k < 1024
  pub edges : length to ≤ 8192

-- no use known yet
unfoldable pub no_uses : List ℕ
no_uses = replicate 1024 8192

unfoldable pub no_nexts : List ℕ
no_nexts = replicate 8192 8192

-- edges, and an index that knows no use yet
pub record Unindexed (to first next : List ℕ) : Type 0 where
  pub ends : Ends to
  pub no_firsts : first ≡ no_uses
  pub empty_nexts : next ≡ no_nexts

-- the index of the edges from `low` on, and of all
abbrev pub EdgesFrom : List ℕ → List ℕ → List ℕ → ℕ → Type 0
EdgesFrom to first next low = IndexedFrom (EndsAt to) (length to) 8192 1024 8192 first next low

abbrev pub Indexed : List ℕ → List ℕ → List ℕ → Type 0
Indexed to first next = EdgesFrom to first next 0

-- edges with their index, as `Edges` holds them
pub record Index (from to first next : List ℕ) : Type 0 where
  pub sized : Sized from to
  pub chained : Chained (EndsAt to) (length to) 8192 1024 first next 0
