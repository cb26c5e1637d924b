-- Laws of tests, of elements of a list, and of bodies.
use mathlib.Core.Path.{◌≡◌, refl, sym, subst}
use mathlib.Core.Logic.{◌⊎◌, inl, inr}
use mathlib.Core.Bool.{Bool, true, false, not, ◌&&◌, ◌||◌}
use mathlib.Core.List.{List, [], ◌∷◌, Memᴰ}
use Prim.Native.Nat.{ℕ}
use lib.Dec.{T, eqb, eqb_refl}
use Rattle.gdl.specs.Game.{Literal, pos, neg}
use Rattle.gdl.specs.Sets.{Atoms, ◌⊆◌}
use Rattle.gdl.specs.Standard.{body_holds}

pub eq→eqb : (m n : ℕ) → m ≡ n → T (eqb m n)
eq→eqb m n e = subst (λ (k : ℕ). T (eqb m k)) e (eqb_refl m)

pub and_left : (a b : Bool) → T (a && b) → T a
and_left true b t = tt
and_left false b t = t

pub and_right : (a b : Bool) → T (a && b) → T b
and_right true b t = t
and_right false b t = absurd t

pub and_both : (a b : Bool) → T a → T b → T (a && b)
and_both true b s t = t
and_both false b s t = s

pub and_elim : {P : Type 0} (a b : Bool) → (T a → T b → P) → T (a && b) → P
and_elim true b f t = f tt t
and_elim false b f t = absurd t

pub and_agree : (a x y : Bool) → (T a → x ≡ y) → (a && x) ≡ (a && y)
and_agree true x y f = f tt
and_agree false x y f = refl

pub or_left : (a b : Bool) → T a → T (a || b)
or_left true b t = tt
or_left false b t = absurd t

pub or_right : (a b : Bool) → T b → T (a || b)
or_right true b t = tt
or_right false b t = t

pub or_cases : (a b : Bool) → T (a || b) → T a ⊎ T b
or_cases true b t = inl tt
or_cases false b t = inr t

-- a test decides
pub test : (b : Bool) → T b ⊎ T (not b)
test true = inl tt
test false = inr tt

-- `imp a b`: b where a holds
abbrev pub imp : Bool → Bool → Bool
imp true b = b
imp false b = true

pub imp_mk : (a b : Bool) → (T a → T b) → T (imp a b)
imp_mk true b f = f tt
imp_mk false b f = tt

pub imp_use : (a b : Bool) → T (imp a b) → T a → T b
imp_use true b t s = t
imp_use false b t s = absurd s

-- absence goes the other way
pub not_mono : (a b : Bool) → (T b → T a) → T (not a) → T (not b)
not_mono a true f t = absurd (go a (f tt) t)
  where
    go : (a : Bool) → T a → T (not a) → ⊥
    go true s t = t
    go false s t = s
not_mono a false f t = tt

pub same : (a b : Bool) → (T a → T b) → (T b → T a) → a ≡ b
same true true f g = refl
same true false f g = absurd (f tt)
same false true f g = absurd (g tt)
same false false f g = refl

-- a thing holds of each element
pub each_cons {ℓ} : {A : Type 0} (Q : A → Type ℓ) (d : A) (l : List A) → Q d → ((c : A) → Memᴰ c l → Q c) → (c : A) → Memᴰ c (d ∷ l) → Q c
each_cons Q d l here there c (Memᴰ.head e) = subst Q (sym e) here
each_cons Q d l here there c (Memᴰ.tail m) = there c m

-- the one law of bodies: unnegated atoms may grow, negated ones shrink, each only where it stands in the body
pub body_mono : (N N' X X' : Atoms) (b : List Literal)
    → ((q : ℕ) → Memᴰ (pos q) b → T (X q) → T (X' q))
    → ((q : ℕ) → Memᴰ (neg q) b → T (N' q) → T (N q))
    → T (body_holds N X b) → T (body_holds N' X' b)
body_mono N N' X X' [] f g t = tt
body_mono N N' X X' (pos q ∷ b) f g t =
    and_both (X' q) (body_holds N' X' b) (f q (Memᴰ.head refl) (and_left (X q) (body_holds N X b) t))
    (body_mono N N' X X' b (λ r m. f r (Memᴰ.tail m)) (λ r m. g r (Memᴰ.tail m)) (and_right (X q) (body_holds N X b) t))
body_mono N N' X X' (neg q ∷ b) f g t =
    and_both (not (N' q)) (body_holds N' X' b) (not_mono (N q) (N' q) (g q (Memᴰ.head refl)) (and_left (not (N q)) (body_holds N X b) t))
    (body_mono N N' X X' b (λ r m. f r (Memᴰ.tail m)) (λ r m. g r (Memᴰ.tail m)) (and_right (not (N q)) (body_holds N X b) t))

-- the same, everywhere
pub body_mono' : (N X X' : Atoms) (b : List Literal) → X ⊆ X' → T (body_holds N X b) → T (body_holds N X' b)
body_mono' N X X' b f = body_mono N N X X' b (λ q m. f q) (λ q m t. t)
