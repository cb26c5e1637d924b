-- The three walks over 0, 1, 2, .. that the page's words ask for: flags by a test, the numbers that pass a test, a test of every element.
use Rattle.std.specs.Prelude.{Bool, true, ◌&&◌, cond, List, [], ◌∷◌, ℕ, zero, suc}
use Rattle.gdl.specs.Flags.{bit}

-- a flag, 0 or 1, for each of i, i + 1, .., n of them
abbrev pub flags_from : (ℕ → Bool) → ℕ → ℕ → List ℕ
flags_from f i zero = []
flags_from f i (suc n) = bit (f i) ∷ flags_from f (suc i) n

-- those of i, i + 1, .., n of them, that pass: ascending
abbrev pub those_from : (ℕ → Bool) → ℕ → ℕ → List ℕ
those_from f i zero = []
those_from f i (suc n) = let r : List ℕ = those_from f (suc i) n in cond (f i) (i ∷ r) r

-- each element passes at its place, the first at place i
abbrev pub every_from : (ℕ → ℕ → Bool) → ℕ → List ℕ → Bool
every_from f i [] = true
every_from f i (x ∷ xs) = f i x && every_from f (suc i) xs

abbrev pub flags : ℕ → (ℕ → Bool) → List ℕ
flags n f = flags_from f 0 n

abbrev pub those : ℕ → (ℕ → Bool) → List ℕ
those n f = those_from f 0 n

abbrev pub every : (ℕ → ℕ → Bool) → List ℕ → Bool
every f l = every_from f 0 l
