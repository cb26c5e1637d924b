-- The marks and the queue of a worklist, and marks to begin with.
use Rattle.std.specs.Prelude.{◌≡◌, List, ℕ, ◌<◌, ◌≤◌, length, get_or, replicate}
use Rattle.gdl.specs.Flags.{count}

-- no node is marked, and none queued
unfoldable pub no_marks : List ℕ
no_marks = replicate 1024 0

-- the marks m and the queue q of n nodes: each that is queued is marked, and there is room for those that are marked and not queued yet
pub record Queue (m q : List ℕ) (n : ℕ) : Type 0 where
  pub marked : (j : ℕ) → j < n → get_or m (get_or q j 0) 0 ≡ 1
  pub nodes : (j : ℕ) → j < n → get_or q j 0 < 1024
  pub flags : (p : ℕ) → get_or m p 0 ≤ 1
  pub long : length m ≡ 1024
  pub room : n ≤ count m
  pub queue_long : length q ≡ 1024

-- marks that are 0 or 1, none set from `size` on
pub record Seeded (m : List ℕ) (size : ℕ) : Type 0 where
  pub few : size ≤ 1024
  pub long : length m ≡ 1024
  pub flags : (p : ℕ) → get_or m p 0 ≤ 1
  pub past : (p : ℕ) → size ≤ p → get_or m p 0 ≡ 0
