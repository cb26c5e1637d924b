-- Sets of atoms as lists of flags, 0 or 1: how the code holds them.
use Rattle.std.specs.Prelude.{Bool, true, false, List, [], ◌∷◌, ℕ, ◌+◌, eqb, get_or, set, replicate}
use Rattle.gdl.specs.Sets.{Atoms}

-- the set that a list of flags stands for
abbrev pub on : List ℕ → Atoms
on l p = eqb (get_or l p 0) 1

-- no flag set, and one
abbrev pub blank : ℕ → List ℕ
blank n = replicate n 0

abbrev pub single : ℕ → ℕ → List ℕ
single n q = set (blank n) q 1

abbrev pub bit : Bool → ℕ
bit true = 1
bit false = 0

-- how many flags are set
unfoldable pub count : List ℕ → ℕ
count [] = 0
count (x ∷ xs) = bit (eqb x 1) + count xs

-- sets a flag where the test passed
abbrev pub put : Bool → ℕ → List ℕ → List ℕ
put true h X = set X h 1
put false h X = X
