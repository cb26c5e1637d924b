-- Texts of the protocol as bytes, and texts put into lent room one after another.
use Rattle.std.specs.Prelude.{ℕ, Bool, true, false, ◌&&◌, List, [], ◌∷◌, eqb}
use Prim.Native.Char.{code}
use Prim.Native.String.{String}
use Prim.Native.String as S
use Rattle.numbers.specs.Writing.{written_at}

-- the bytes of a text; every character that the protocol writes is one byte
abbrev pub text : String → List ℕ
text S.[] = []
text (S.◌∷◌ c s) = code c ∷ text s

abbrev pub same : List ℕ → List ℕ → Bool
same [] [] = true
same [] (c ∷ b) = false
same (d ∷ a) [] = false
same (d ∷ a) (c ∷ b) = eqb d c && same a b

-- the place and the room after texts are put one after another, each where the one before ended
unfoldable pub puts : List (List ℕ) → ℕ × List ℕ → ℕ × List ℕ
puts [] p = p
puts (t ∷ ts) p = puts ts (written_at t p.0 p.1)
