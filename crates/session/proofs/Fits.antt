-- Laws of the loops that test a shape.
use mathlib.Core.Path.{◌≡◌, refl, sym, ap, subst, ◌∙◌}
use mathlib.Core.Bool.{Bool, true, false, ◌&&◌}
use mathlib.Core.List.{List, [], ◌∷◌}
use Prim.Native.Nat.{ℕ, zero, suc, ◌+◌, ◌-◌, ◌≤◌, ◌<◌}
use native.Mathlib.Omega.{arith}
use native.Mathlib.Numerals.{add-one}
use lib.Dec.{eqb, leb}
use lib.ListN.{length, get_or, take, drop, length-drop}
use lib.Seq.{drop-cons, length-take-le, get_or-take, get_or-drop}
use native.Mathlib.Decide.{ℕ_discrete}
use borrow.Author.Tests.{le-leb, eq-eqb, ne_eqb}
use Rattle.gdl.specs.Game.{Game}
use Rattle.gdl.specs.Flags.{bit}
use Rattle.gdl.specs.Lists.{every_from, every}
use Rattle.session.specs.Shape.{below, in_grid, flag_fits, choice_within, position_shaped, choices_shaped, percepts_shaped, shaped, limits_of}
use Rattle.session.specs.Runs.{Bounds, Run, RunIf, Fitting}
use Rattle.std.specs.List.{list_all, enumerate_from}
use Rattle.session.specs.declared.Session.{Session}
use Rattle.session.specs.declared.shape.Limits.{Limits}

-- ---- a test of every element: those before k passed, and what is left is asked of the rest

pub record Testing (f : ℕ → ℕ → Bool) (l : List ℕ) (k : ℕ) : Type 0 where
  pub within : k ≤ length l
  pub left : every f l ≡ every_from f k (drop k l)

module _ (f : ℕ → ℕ → Bool) (l : List ℕ) where
  -- one more, and several at once
  goes : (k : ℕ) → Testing f l k → k < length l → f k (get_or l k 0) ≡ true → Testing f l (k + 1)
  goes k i h e = record { within = omega arith; left = i.left ∙ rw (drop-cons l k 0 h, e, add-one k) }

  jump : (k : ℕ) → Testing f l k → (n : ℕ) → k + n ≤ length l → ((j : ℕ) → k ≤ j → j < k + n → f j (get_or l j 0) ≡ true) → Testing f l (k + n)
  jump k i zero le p = let e : k ≡ k + 0 = omega arith in subst (Testing f l) e i
  jump k i (suc n) le p =
      let t : Testing f l (k + n) = jump k i n (omega arith) (λ j ge lt. p j ge (omega arith)) in
      let e : k + n + 1 ≡ k + suc n = omega arith in
      subst (Testing f l) e (goes (k + n) t (omega arith) (p (k + n) (omega arith) (omega arith)))

  pub testing_jumps : (k : ℕ) → Testing f l k → (n : ℕ) → Fitting f l k n → Testing f l (k + n)
  testing_jumps k i n w = jump k i n w.within w.pass

-- the same test over the elements with their places
pub every_listed : (f : ℕ → ℕ → Bool) (i : ℕ) (l : List ℕ) → list_all (λ (p : ℕ × ℕ). f p.0 p.1) (enumerate_from i l) ≡ every_from f i l
every_listed f i [] = refl
every_listed f i (x ∷ l) = ap (λ (b : Bool). f i x && b) (rw (← add-one i) (every_listed f (i + 1) l))

-- ---- one element

module _ (x : ℕ) where
  pub unset : (i width rows columns : ℕ) → x ≡ 0 → true ≡ flag_fits (in_grid width rows columns) i x
  unset i width rows columns h = rw (h, le-leb 0 (bit (in_grid width rows columns i)) (omega arith))

-- ---- a run of flags, or one

module _ (l : List ℕ) (i : ℕ) where
  pub run_by : i < length l → 64 ≤ length l - i → (h : ℕ) → Bounds (take (i + 64 - i) (drop i l)) (length (take (i + 64 - i) (drop i l))) h → RunIf l i (eqb h 0)
  run_by lt le h b = elim (ℕ_discrete h 0) [
    | yes e ↦ rw (eq-eqb h 0 e) (record { within = room; unset = λ j ge jl. zero_at j ge jl e })
    | no n ↦ rw (ne_eqb h 0 n) tt
  ]
    where
      room : i + 64 ≤ length l
      room = omega arith

      many : length (take (i + 64 - i) (drop i l)) ≡ i + 64 - i
      many = length-take-le (i + 64 - i) (drop i l) (omega (arith, length-drop i l))

      zero_at : (j : ℕ) → i ≤ j → j < i + 64 → h ≡ 0 → get_or l j 0 ≡ 0
      zero_at j ge jl e =
          let k : ℕ = j - i in
          let q : i + (j - i) ≡ j = omega arith in
          let g : get_or (take (i + 64 - i) (drop i l)) (j - i) 0 ≡ get_or l j 0 = get_or-take (i + 64 - i) (drop i l) (j - i) 0 (omega arith) ∙ (get_or-drop i l (j - i) 0 ∙ ap (λ (x : ℕ). get_or l x 0) q) in
          omega (arith, b.below (j - i) (omega (arith, many)))

  module _ (width rows columns : ℕ) where
    pub fits_run : (r : Bool) → RunIf l i r → r ≡ true → Fitting (flag_fits (in_grid width rows columns)) l i 64
    fits_run r w e =
        let u : Run l i = rw e at w in
        record { some = omega arith; within = u.within; pass = λ j ge lt. sym (unset (get_or l j 0) j width rows columns (u.unset j ge lt)) }

    module _ (lt : i < length l) (r : Bool) (e : r ≡ flag_fits (in_grid width rows columns) i (get_or l i 0)) where
      pub fits_one : r ≡ true → Fitting (flag_fits (in_grid width rows columns)) l i 1
      fits_one t = record { some = omega arith; within = omega arith; pass = λ j ge le. let q : j ≡ i = omega arith in rw q (sym e ∙ t) }

      pub fits_none : r ≡ false → flag_fits (in_grid width rows columns) i (get_or l i 0) ≡ false
      fits_none t = sym e ∙ t

pub ruleset runs = (run_by, fits_run, fits_one, fits_none)

-- ---- the whole record

-- what comes after `&&` is asked only where what comes before it holds
pub asked : (v a b : Bool) → a ≡ true → v ≡ b → v ≡ (a && b)
asked v a b e f = rw e f

pub unasked : (v a b : Bool) → a ≡ false → v ≡ false → v ≡ (a && b)
unasked v a b e f = rw e f

module _ (σ : Session) (l : Limits) where
  abbrev pub position_part : Bool
  position_part = every (flag_fits (below l.fluents)) σ.position

  abbrev pub choices_part : Bool
  choices_part = every (choice_within l.seats l.moves) σ.choices

  abbrev pub percepts_part : Bool
  percepts_part = every (flag_fits (in_grid 256 l.seats l.percepts)) σ.percepts

  pub by_parts : (first second r : Bool) → first ≡ (leb σ.round 65535 && position_part) → second ≡ (first && choices_part) → r ≡ (second && percepts_part) → (G : Game) → l ≡ limits_of G → r ≡ shaped G σ
  unfolding shaped position_shaped choices_shaped percepts_shaped
  by_parts first second r ef es er G e = rw e at (rw (es, ef, regroup (leb σ.round 65535) position_part choices_part percepts_part) at er)
    where
      regroup : (a b c d : Bool) → (((a && b) && c) && d) ≡ (a && (b && (c && d)))
      regroup true true c d = refl
      regroup true false c d = refl
      regroup false b c d = refl
