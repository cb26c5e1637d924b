-- Words are the parts that a line has between its blanks.
use Prim.Native.Nat.{ℕ}
use native.Mathlib.Omega.{arith}
use mathlib.Core.Path.{◌≡◌, refl, sym, ap, ◌∙◌}
use mathlib.Core.Bool.{Bool, cond, not}
use mathlib.Core.List.{List, [], ◌∷◌}
use lib.Dec.{eqb}
use lib.ListN.{length, get_or}
use denote.Ref.{Bor}
use Rattle.std.specs.Prelude.{Option, Some, None, unwrap_or, option_map, slice_get}
use Rattle.std.specs.Option.{UnwrapsOrElse}
use Rattle.std.specs.List.{slice_split, onto_first, list_all}
use borrow.Author.Tests.{ne_eqb}
use Rattle.std.proofs.lemmas.Option.{unwrap_or-slice_get}
use Rattle.lines.specs.Words.{on_first, words_of, none_empty}

abbrev pub is_blank : ℕ → Bool
is_blank b = eqb b 32

same_first : (b : ℕ) (ws : List (List ℕ)) → on_first b ws ≡ onto_first b ws
same_first b [] = refl
same_first b (w ∷ ws) = refl

pub words_split : (bs : List ℕ) → words_of bs ≡ slice_split is_blank bs
words_split [] = refl
words_split (b ∷ bs) =
    ap (λ (ws : List (List ℕ)). cond (is_blank b) ([] ∷ ws) (on_first b ws)) (words_split bs) ∙
    ap (λ (ws : List (List ℕ)). cond (is_blank b) ([] ∷ slice_split is_blank bs) ws) (same_first b (slice_split is_blank bs))

abbrev pub is_some_word : List ℕ → Bool
is_some_word w = not (eqb (length w) 0)

pub none_empty_all : (ws : List (List ℕ)) → none_empty ws ≡ list_all is_some_word ws
none_empty_all [] = refl
none_empty_all ([] ∷ ws) = refl
none_empty_all ((b ∷ w) ∷ ws) = rw (ne_eqb (length (b ∷ w)) 0 (λ e. omega arith)) (none_empty_all ws)

-- the part of a number, or no bytes
pub the_word : (line : List ℕ) (k : ℕ) (o : Option (Bor (List ℕ))) (r : Bor (List ℕ)) → option_map (λ (x : Bor (List ℕ)). x.now) o ≡ slice_get (slice_split is_blank line) k → UnwrapsOrElse o (λ (x : Bor (List ℕ)). x.now ≡ []) r → r.now ≡ get_or (words_of line) k []
the_word line k o r e u = from_part o u ∙ ap (λ (w : Option (List ℕ)). unwrap_or w []) e ∙ unwrap_or-slice_get (slice_split is_blank line) k [] ∙ ap (λ (ws : List (List ℕ)). get_or ws k []) (sym (words_split line))
  where
    from_part : (o : Option (Bor (List ℕ))) → UnwrapsOrElse o (λ (x : Bor (List ℕ)). x.now ≡ []) r → r.now ≡ unwrap_or (option_map (λ (x : Bor (List ℕ)). x.now) o) []
    from_part (Some x) u = ap (λ (x : Bor (List ℕ)). x.now) u
    from_part None u = u
