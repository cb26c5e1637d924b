-- The "Message of a seat" as numbers, from flags.
use Rattle.std.specs.Prelude.{Bool, not, cond, List, [], ◌∷◌, ◌++◌, ℕ, ◌+◌, ◌*◌, ◌≤◌, ◌<◌, length}
use Rattle.gdl.specs.Flags.{on, bit}
use Rattle.gdl.specs.Lists.{those}
use Rattle.message.specs.declared.Sheet.{Sheet}

-- "count of .. and the .."
abbrev pub counted : List ℕ → List ℕ
counted l = length l ∷ l

-- the flags from a place on
abbrev pub from : List ℕ → ℕ → ℕ → Bool
from l start i = on l (start + i)

-- "seat; round; 1 if over else 0"
abbrev pub head_numbers : Sheet → List ℕ
head_numbers m = m.seat ∷ m.round ∷ bit m.over ∷ []

-- "count of percepts and the percepts ascending; count of legal moves and the moves ascending (count 0 when over); count of goal values and the
-- values ascending (count 0 unless over)"
unfoldable pub message_of : Sheet → List ℕ → List ℕ → List ℕ → List ℕ
message_of m percepts legal goals =
    let start : ℕ = m.seat * 256 in
    head_numbers m ++ (counted (those m.percepts (from percepts start)) ++ (counted (cond (not m.over) (those m.moves (from legal start)) []) ++
    counted (cond m.over (those 101 (from goals start)) [])))

-- a seat below 8, at most 256 percepts and 256 moves
pub record Fits (m : Sheet) : Type 0 where
  pub seat : m.seat < 8
  pub percepts : m.percepts ≤ 256
  pub moves : m.moves ≤ 256
