-- Laws of a feed: the first line end, and the move to the front.
use Prim.Native.Nat.{ℕ, ◌+◌, ◌-◌, ◌≤◌, ◌<◌}
use native.Mathlib.Omega.{arith}
use mathlib.Core.Path.{◌≡◌, refl, sym, ap, ◌∙◌}
use mathlib.Core.List.{List, ◌∷◌}
use lib.ListN.{length, take, drop}
use lib.Seq.{sets, slice, paste, length-slice}
use borrow.Author.Tests.{eq-eqb, ne_eqb}
use Rattle.std.specs.Prelude.{Option, MatchOption, unwrap_or}
use Rattle.std.specs.List.{AllWithin, HoldsAt}
use Rattle.std.proofs.lemmas.Iterator.{index_from_first}
use Rattle.std.proofs.lemmas.List.{drop-take}
use Rattle.std.proofs.lemmas.List.Edits.{sets-eq}
use Rattle.feed.specs.Feed.{until_end}

-- what `position` says of the first byte that ends a line
abbrev pub IsFirstEnd : List ℕ → Option ℕ → Type 0
IsFirstEnd xs r = MatchOption r (AllWithin (λ (x : ℕ). x ≡ 10 → ⊥) xs 0 (length xs)) (λ i. (i < length xs) × HoldsAt (λ (x : ℕ). x ≡ 10) xs i × AllWithin (λ (x : ℕ). x ≡ 10 → ⊥) xs 0 i)

pub until_first : (xs : List ℕ) (r : Option ℕ) → IsFirstEnd xs r → until_end xs ≡ unwrap_or r (length xs)
until_first xs r first = index_from_first until_end (λ (x : ℕ). x ≡ 10) (λ (x : ℕ). x ≡ 10 → ⊥) refl hit miss xs r first
  where
    hit : (b : ℕ) (bs : List ℕ) → b ≡ 10 → until_end (b ∷ bs) ≡ 0
    hit b bs e = rw (eq-eqb b 10 e)

    miss : (b : ℕ) (bs : List ℕ) → (b ≡ 10 → ⊥) → until_end (b ∷ bs) ≡ until_end bs + 1
    miss b bs e = rw (ne_eqb b 10 e) (omega arith)

module _ (room : List ℕ) (start have : ℕ) (fits : (start ≤ have) × (have ≤ length room)) where
  the_slice : take (have - start) (drop start room) ≡ slice start have room
  the_slice = let e : start + (have - start) ≡ have = omega arith in sym (drop-take start (have - start) room) ∙ ap (λ n. drop start (take n room)) e

  pub fronted : paste room 0 (drop start room) (have - start) ≡ sets room 0 (slice start have room)
  fronted =
      let n : length (slice start have room) ≡ have - start = length-slice start have room fits.1 in
      sym (sets-eq (slice start have room) room 0 (omega (arith, n)) ∙ rw (n, ← the_slice) refl)
