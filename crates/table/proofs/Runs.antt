-- Laws of a reading that goes on from what was read, and of runs of stores into a room.
use Prim.Native.Nat.{ℕ, suc, ◌+◌}
use native.Mathlib.Nat.{add-zero}
use native.Mathlib.Omega.{arith}
use mathlib.Core.Path.{◌≡◌, refl, ap}
use mathlib.Core.List.{List, [], ◌∷◌, ◌++◌, append_assoc, map}
use lib.ListN.{length, set, length-map}
use lib.Seq.{sets}
use Rattle.table.specs.Parse.{Parse, ok, fault, after}

-- a reading of a list that goes on from xs
unfoldable pub onto : {A : Type 0} → List A → Parse (List A) → Parse (List A)
onto xs p = after p (λ rest n. ok (xs ++ rest) n)

pub onto_none : {A : Type 0} (p : Parse (List A)) → p ≡ onto [] p
unfolding onto
onto_none (ok ys n) = refl
onto_none (fault f) = refl

pub onto_cons : {A : Type 0} (xs : List A) (a : A) (p : Parse (List A)) → onto xs (after p (λ rest n. ok (a ∷ rest) n)) ≡ onto (xs ++ a ∷ []) p
unfolding onto
onto_cons xs a (ok ys n) = simp append_assoc
onto_cons xs a (fault f) = refl

pub map_snoc : {A B : Type 0} (f : A → B) (xs : List A) (a : A) → map f (xs ++ a ∷ []) ≡ map f xs ++ f a ∷ []
map_snoc f [] a = refl
map_snoc f (x ∷ xs) a = ap (λ l. f x ∷ l) (map_snoc f xs a)

-- runs of stores, one after another
pub sets_append : {A : Type 0} (l : List A) (i : ℕ) (vs ws : List A) → sets (sets l i vs) (i + length vs) ws ≡ sets l i (vs ++ ws)
sets_append l i [] ws = rw add-zero
sets_append l i (b ∷ vs) ws =
    let e : i + suc (length vs) ≡ suc i + length vs = omega arith in
    rw e (sets_append (set l i b) (suc i) vs ws)

-- the room after one store more: of f of what was read next, at the place after those before
pub stored_next : {A : Type 0} (f : A → ℕ) (old room : List ℕ) (i j : ℕ) (done : List A) (a : A) → room ≡ sets old i (map f done) → j ≡ i + length done
    → set room j (f a) ≡ sets old i (map f (done ++ a ∷ []))
stored_next f old room i j done a e h =
    let l : length (map f done) ≡ length done = length-map done f in
    let k : j ≡ i + length (map f done) = omega arith in
    rw (map_snoc, e, k) (sets_append old i (map f done) (f a ∷ []))
