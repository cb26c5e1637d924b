-- The worklist of a closure: what its steps ask for, and what each gives.
use Rattle.std.specs.Prelude.{◌≡◌, ◌⊎◌, List, ℕ, ◌+◌, ◌<◌, ◌≤◌, T, get_or, set, take}
use Rattle.gdl.specs.Sets.{Atoms}
use Rattle.gdl.specs.Flags.{count}
use Rattle.edges.specs.Closure.{Shut}
use Rattle.edges.specs.Queue.{Seeded}
use Rattle.edges.specs.declared.worklist.Worklist.{Worklist}

-- ---- one node

-- p is marked, and not every marked node is queued
pub record Pushable (p : ℕ) (w : Worklist) : Type 0 where
  pub node : p < 1024
  pub marked : get_or w.marks p 0 ≡ 1
  pub room : w.many < count w.marks

-- p stands at the end of the queue
pub record Pushed (p : ℕ) (w w' : Worklist) : Type 0 where
  pub marks : w'.marks ≡ w.marks
  pub queue : w'.queue ≡ set w.queue w.many p
  pub many : w'.many ≡ w.many + 1

-- the worklist stays as it was
pub record Stays (w w' : Worklist) : Type 0 where
  pub marks : w'.marks ≡ w.marks
  pub queue : w'.queue ≡ w.queue
  pub many : w'.many ≡ w.many

-- h is marked, and stands at the end of the queue
pub record Joins (h : ℕ) (w w' : Worklist) : Type 0 where
  pub marks : w'.marks ≡ set w.marks h 1
  pub queue : w'.queue ≡ set w.queue w.many h
  pub many : w'.many ≡ w.many + 1

-- h joins, if it was not marked
abbrev pub Marked : ℕ → Worklist → Worklist → Type 0
Marked h w w' = ((get_or w.marks h 0 ≡ 1) × Stays w w') ⊎ ((get_or w.marks h 0 ≡ 1 → ⊥) × Joins h w w')

-- ---- some nodes

-- p stands in the queue, at a place from `at` on
pub record Waits (w : Worklist) (at p : ℕ) : Type 0 where
  pub j : ℕ
  pub from : at ≤ j
  pub to : j < w.many
  pub is : get_or w.queue j 0 ≡ p

-- nodes for which P holds joined: no mark is lost, and each new one waits behind the others
pub record Joined (P : ℕ → Type 0) (w w' : Worklist) : Type 0 where
  pub keeps : (p : ℕ) → get_or w.marks p 0 ≡ 1 → get_or w'.marks p 0 ≡ 1
  pub new : (p : ℕ) → get_or w'.marks p 0 ≡ 1 → (get_or w.marks p 0 ≡ 1) ⊎ (P p × Waits w' w.many p)
  pub before : (j : ℕ) → j < w.many → get_or w'.queue j 0 ≡ get_or w.queue j 0
  pub more : w.many ≤ w'.many

-- and all of these are marked
pub record Brought (P : ℕ → Type 0) (w w' : Worklist) : Type 0 where
  pub joined : Joined P w w'
  pub all : (h : ℕ) → P h → get_or w'.marks h 0 ≡ 1

-- ---- all marks so far

-- what p brings in is marked
pub record Done (Brings : ℕ → ℕ → Type 0) (m : List ℕ) (p : ℕ) : Type 0 where
  pub at : (h : ℕ) → Brings p h → get_or m h 0 ≡ 1

-- of the queue those before `at` are done: each marked node is done or waits
pub record Work (Brings : ℕ → ℕ → Type 0) (w : Worklist) (at : ℕ) : Type 0 where
  pub each : (p : ℕ) → get_or w.marks p 0 ≡ 1 → Done Brings w.marks p ⊎ Waits w at p
  pub order : at ≤ w.many

-- the marks m became m': none is lost, and every set that is shut and holds m holds m'
pub record Grew (Brings : ℕ → ℕ → Type 0) (m m' : List ℕ) : Type 0 where
  pub keeps : (p : ℕ) → get_or m p 0 ≡ 1 → get_or m' p 0 ≡ 1
  pub least : (Y : Atoms) → Shut Brings Y → ((p : ℕ) → get_or m p 0 ≡ 1 → T (Y p)) → (p : ℕ) → get_or m' p 0 ≡ 1 → T (Y p)

-- a node waits at `at`
pub record Turn (Brings : ℕ → ℕ → Type 0) (w : Worklist) (at : ℕ) : Type 0 where
  pub work : Work Brings w at
  pub waits : at < w.many

-- that node is done
pub record Visited (Brings : ℕ → ℕ → Type 0) (w : Worklist) (at : ℕ) (w' : Worklist) : Type 0 where
  pub grew : Grew Brings w.marks w'.marks
  pub work : Work Brings w' (at + 1)

-- ---- the seeds

-- nothing is done yet: each marked node waits
pub record Waiting (w : Worklist) : Type 0 where
  pub waits : (p : ℕ) → get_or w.marks p 0 ≡ 1 → Waits w 0 p

-- marks, and nothing is queued yet
pub record Ungathered (w : Worklist) (size : ℕ) : Type 0 where
  pub seeded : Seeded w.marks size
  pub empty : w.many ≡ 0

-- the marks are m, and of them the marked nodes below p are queued, and nothing else
pub record Gathered (m : List ℕ) (w : Worklist) (p : ℕ) : Type 0 where
  pub marks : w.marks ≡ m
  pub waits : (j : ℕ) → j < p → get_or m j 0 ≡ 1 → Waits w 0 j
  pub room : w.many ≤ count (take p m)
