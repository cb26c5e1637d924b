-- The words of a line: what stands between its blanks.
use Rattle.std.specs.Prelude.{ℕ, Bool, true, false, List, [], ◌∷◌, eqb, if◌then◌else◌}

-- a byte in front of the first of some words
abbrev pub on_first : ℕ → List (List ℕ) → List (List ℕ)
on_first b [] = (b ∷ []) ∷ []
on_first b (w ∷ ws) = (b ∷ w) ∷ ws

-- "Words are separated by single blanks": n blanks stand between n + 1 words, and two blanks in a row have an empty word between them
abbrev pub words_of : List ℕ → List (List ℕ)
words_of [] = [] ∷ []
words_of (b ∷ bs) = if eqb b 32 then [] ∷ words_of bs else on_first b (words_of bs)

abbrev pub none_empty : List (List ℕ) → Bool
none_empty [] = true
none_empty ([] ∷ ws) = false
none_empty ((b ∷ w) ∷ ws) = none_empty ws
