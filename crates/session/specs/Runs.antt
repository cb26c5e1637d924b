-- Runs of flags that fit, as the test of a shape walks over them.
use Rattle.std.specs.Prelude.{◌≡◌, Bool, true, false, Option, Some, None, List, ℕ, ◌+◌, ◌<◌, ◌≤◌, length, get_or}

-- none of the first n elements is above r
pub record Bounds (l : List ℕ) (n r : ℕ) : Type 0 where
  pub below : (j : ℕ) → j < n → get_or l j 0 ≤ r

-- 64 flags from i on, all 0
pub record Run (l : List ℕ) (i : ℕ) : Type 0 where
  pub within : i + 64 ≤ length l
  pub unset : (j : ℕ) → i ≤ j → j < i + 64 → get_or l j 0 ≡ 0

abbrev pub RunIf : List ℕ → ℕ → Bool → Type 0
RunIf l i true = Run l i
RunIf l i false = Unit {0}

-- the n elements from i on pass, and there is one
pub record Fitting (f : ℕ → ℕ → Bool) (l : List ℕ) (i n : ℕ) : Type 0 where
  pub some : 0 < n
  pub within : i + n ≤ length l
  pub pass : (j : ℕ) → i ≤ j → j < i + n → f j (get_or l j 0) ≡ true

-- so many pass, or element i does not
abbrev pub FittingIf : (ℕ → ℕ → Bool) → List ℕ → ℕ → Option ℕ → Type 0
FittingIf f l i (Some n) = Fitting f l i n
FittingIf f l i None = f i (get_or l i 0) ≡ false
