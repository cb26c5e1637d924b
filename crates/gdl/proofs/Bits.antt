-- Lists of flags, each 0 or 1: two of one length that stand for the same set are equal, and the computed model and the computed reach are such lists.
use mathlib.Core.Path.{◌≡◌, refl, sym, ap₂, subst, ◌∙◌}
use mathlib.Core.Logic.{◌⊎◌, inl, inr}
use mathlib.Core.Bool.{Bool, true, false, cond}
use mathlib.Core.List.{List, [], ◌∷◌, map}
use Prim.Native.Nat.{ℕ, zero, suc}
use native.Mathlib.Omega.{arith}
use lib.Dec.{T, eqb}
use lib.ListN.{length, get_or, set}
use Rattle.gdl.specs.Game.{Game, Clause, Atom}
use Rattle.gdl.specs.Sets.{Atoms}
use Rattle.gdl.specs.Standard.{head_of, level_test}
use Rattle.gdl.specs.Truth.{is_fact}
use Rattle.gdl.specs.Reach.{is_seed}
use Rattle.gdl.specs.Flags.{on, bit, put, count}
use Rattle.gdl.specs.Computed.{did, pass, passes, close, run, facts, levels_of, look, model, link_to, link_test, clause_links, true_links, reach_of}

abbrev pub Bits : List ℕ → Type 0
Bits [] = Unit {0}
Bits (x ∷ xs) = ((x ≡ 0) ⊎ (x ≡ 1)) × Bits xs

pub bits_at : (l : List ℕ) (i : ℕ) → Bits l → (get_or l i 0 ≡ 0) ⊎ (get_or l i 0 ≡ 1)
bits_at [] i h = inl refl
bits_at (x ∷ xs) zero h = h.0
bits_at (x ∷ xs) (suc i) h = bits_at xs i h.1

bit_same : (x y : ℕ) → (x ≡ 0) ⊎ (x ≡ 1) → (y ≡ 0) ⊎ (y ≡ 1) → eqb x 1 ≡ eqb y 1 → x ≡ y
bit_same x y (inl a) (inl b) e = a ∙ sym b
bit_same x y (inl a) (inr b) e = absurd (subst T (sym (rw (a, b) at e)) tt)
bit_same x y (inr a) (inl b) e = absurd (subst T (rw (a, b) at e) tt)
bit_same x y (inr a) (inr b) e = a ∙ sym b

pub bits_same : (l m : List ℕ) → Bits l → Bits m → length l ≡ length m → ((p : ℕ) → on l p ≡ on m p) → l ≡ m
bits_same [] [] h k e s = refl
bits_same [] (y ∷ ys) h k e s = absurd (omega arith)
bits_same (x ∷ xs) [] h k e s = absurd (omega arith)
bits_same (x ∷ xs) (y ∷ ys) h k e s = ap₂ ◌∷◌ (bit_same x y h.0 k.0 (s 0)) (bits_same xs ys h.1 k.1 (omega arith) (λ p. s (suc p)))

set_bits : (l : List ℕ) (i : ℕ) → Bits l → Bits (set l i 1)
set_bits [] i h = tt
set_bits (x ∷ xs) zero h = (inr refl, h.1)
set_bits (x ∷ xs) (suc i) h = (h.0, set_bits xs i h.1)

put_bits : (b : Bool) (i : ℕ) (l : List ℕ) → Bits l → Bits (put b i l)
put_bits true i l h = set_bits l i h
put_bits false i l h = h

module _ {I : Type 0} (head : I → ℕ) (test : Atoms → I → Bool) where
  pass_bits : (rules : List I) (X : List ℕ) → Bits X → Bits (pass head test rules X)
  unfolding pass
  pass_bits [] X h = h
  pass_bits (i ∷ is) X h = pass_bits is (put (test (on X) i) (head i) X) (put_bits (test (on X) i) (head i) X h)

  passes_bits : (rules : List I) (k : ℕ) (X : List ℕ) → Bits X → Bits (passes head test rules k X)
  unfolding passes
  passes_bits rules zero X h = h
  passes_bits rules (suc k) X h = go (eqb (count (pass head test rules X)) (count X)) (passes head test rules k (pass head test rules X)) (passes_bits rules k (pass head test rules X) (pass_bits rules X h))
    where
      go : (b : Bool) (r : List ℕ) → Bits r → Bits (cond b X r)
      go true r w = h
      go false r w = w

  close_bits : (rules : List I) (X : List ℕ) → Bits X → Bits (close head test rules X)
  unfolding close
  close_bits rules X h = passes_bits rules (length X) X h

run_bits : (C : List Clause) (ℓ : ℕ → ℕ) (F : List ℕ) (n : ℕ) → Bits F → Bits (run C ℓ F n)
unfolding run
run_bits C ℓ F zero h = h
run_bits C ℓ F (suc n) h = close_bits head_of (level_test ℓ n (on (run C ℓ F n))) C (run C ℓ F n) (run_bits C ℓ F n h)

map_bits : (f : Atom → Bool) (l : List Atom) → Bits (map (λ a. bit (f a)) l)
map_bits f [] = tt
map_bits f (a ∷ l) = (go (f a), map_bits f l)
  where
    go : (b : Bool) → (bit b ≡ 0) ⊎ (bit b ≡ 1)
    go true = inr refl
    go false = inl refl

pub model_bits : (G : Game) (pos ch : List ℕ) → Bits (model G pos ch)
unfolding model facts
model_bits G pos ch = run_bits G.clauses (look (levels_of G)) (facts G pos ch) (suc (length G.atoms)) (map_bits (is_fact (on pos) (did ch)) G.atoms)

pub reach_bits : (G : Game) (z : ℕ) → Bits (reach_of G z)
unfolding reach_of
reach_bits G z = close_bits link_to link_test (clause_links G.clauses (true_links G.atoms 0 G.atoms)) (map (λ a. bit (is_seed z a)) G.atoms) (map_bits (is_seed z) G.atoms)
