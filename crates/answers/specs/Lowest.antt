-- The answer of a search for the lowest seat at which a test strikes.
use Rattle.std.specs.Prelude.{◌≡◌, Bool, true, false, not, List, ℕ, ◌+◌, ◌*◌, ◌-◌, ◌≤◌, ◌<◌, eqb, get_or, Option, Some, None}

-- none of the first n numbers passes
abbrev pub NoneBelow : (ℕ → Bool) → ℕ → Type 0
NoneBelow f n = (q : ℕ) → q < n → f q ≡ false

-- r is the lowest of the first n numbers that passes
pub record Lowest (f : ℕ → Bool) (n r : ℕ) : Type 0 where
  pub within : r < n
  pub passes : f r ≡ true
  pub none : NoneBelow f r

-- the answer of the search
abbrev pub IsLowest : (ℕ → Bool) → ℕ → Option ℕ → Type 0
IsLowest f n None = NoneBelow f n
IsLowest f n (Some r) = Lowest f n r

-- "a seat has no choice"; "move not legal", by the marks of the legal moves in rows of 256
abbrev pub lacks : List ℕ → ℕ → Bool
lacks choices s = eqb (get_or choices s 0) 0

abbrev pub wrongs : List ℕ → List ℕ → ℕ → Bool
wrongs choices legal s = not (eqb (get_or legal (s * 256 + (get_or choices s 0 - 1)) 0) 1)

-- each of the seats, at most 8, has chosen one of at most 256 moves
pub record Chosen (choices : List ℕ) (seats : ℕ) : Type 0 where
  pub few : seats ≤ 8
  pub some : (s : ℕ) → s < seats → 1 ≤ get_or choices s 0
  pub within : (s : ℕ) → s < seats → get_or choices s 0 ≤ 256
