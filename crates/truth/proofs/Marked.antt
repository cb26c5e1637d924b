-- Laws of the marks: one atom more, and what a mark says.
use mathlib.Core.Path.{◌≡◌, refl, sym, ap, ◌∙◌}
use mathlib.Core.Bool.{Bool, true, false, ◌&&◌, ◌||◌}
use mathlib.Core.List.{List, [], ◌∷◌, ◌++◌}
use Prim.Native.Nat.{ℕ, zero, suc, ◌+◌, ◌*◌, ◌≤◌, ◌<◌}
use native.Mathlib.Omega.{arith}
use native.Mathlib.Numerals.{add-one}
use native.Mathlib.Decide.{dec_lt}
use borrow.Author.Tests.{ne_eqb, eq-eqb, lt-ltb, le-ltb}
use lib.Dec.{eqb, ltb}
use lib.ListN.{length, get_or, set, take}
use lib.Seq.{length-take-le, take-suc, take_all}
use Rattle.gdl.specs.Game.{Atom}
use Rattle.gdl.specs.Sets.{Atoms}
use Rattle.gdl.specs.Flags.{on, blank, put}
use Rattle.gdl.specs.Lists.{flags_from, flags}
use Rattle.gdl.specs.Computed.{any_of}
use Rattle.gdl.proofs.Walks.{flags_same, flags_set}
use Rattle.truth.specs.Reading.{atoms_of}
use Rattle.truth.specs.Marks.{is_at, marks_of, Marking}
use Rattle.truth.proofs.FactFlags.{atoms_length}

-- ---- one place

module _ (marks : List ℕ) (kind wanted flag at : ℕ) where
  abbrev marked_at : List ℕ
  marked_at = put ((eqb kind wanted && eqb flag 1) && ltb at 2048) at marks

  pub other_kind_lem : (kind ≡ wanted → ⊥) → marks ≡ marked_at
  other_kind_lem n = rw (ne_eqb kind wanted n)

  module _ (e : kind ≡ wanted) where
    pub not_in : (flag ≡ 1 → ⊥) → marks ≡ marked_at
    not_in n = rw (eq-eqb kind wanted e, ne_eqb flag 1 n)

    module _ (f : flag ≡ 1) where
      pub no_place : 2048 ≤ at → marks ≡ marked_at
      no_place h = rw (eq-eqb kind wanted e, eq-eqb flag 1 f, le-ltb at 2048 h)

      pub in_place : at < 2048 → set marks at 1 ≡ marked_at
      in_place h = rw (eq-eqb kind wanted e, eq-eqb flag 1 f, lt-ltb at 2048 h)

-- ---- one atom more

or_none : (b : Bool) → (b || false) ≡ b
or_none true = refl
or_none false = refl

-- a mark that is put is a flag more
put_flag : (f : ℕ → Bool) (a b : Bool) (at : ℕ) → put ((a && b) && ltb at 2048) at (flags 2048 f) ≡ flags 2048 (λ j. f j || ((a && eqb at j) && b))
put_flag f false b at = flags_same f (λ j. f j || false) 2048 (λ k lt. sym (or_none (f k)))
put_flag f true false at = flags_same f (λ j. f j || (eqb at j && false)) 2048 (λ k lt. sym (no_more (f k) (eqb at k)))
  where
    no_more : (x y : Bool) → (x || (y && false)) ≡ x
    no_more true y = refl
    no_more false true = refl
    no_more false false = refl
put_flag f true true at = elim (dec_lt at 2048) [
  | yes h ↦ rw (lt-ltb at 2048 h) (flags_set f 2048 at h ∙ flags_same (λ j. f j || eqb at j) (λ j. f j || (eqb at j && true)) 2048 (λ k lt. ap (λ (x : Bool). f k || x) (and_true (eqb at k))))
  | no g ↦ rw (le-ltb at 2048 (omega arith)) (flags_same f (λ j. f j || (eqb at j && true)) 2048 (λ k lt. sym (rw (ne_eqb at k (λ e. omega arith)) (or_none (f k)))))
]
  where
    and_true : (x : Bool) → x ≡ x && true
    and_true true = refl
    and_true false = refl

any_snoc : (f : Atom → Bool) (l : List Atom) (a : Atom) (X : Atoms) → any_of f (l ++ a ∷ []) X ≡ (any_of f l X || (f a && X (length l)))
any_snoc f [] a X = or_none (f a && X 0)
any_snoc f (b ∷ l) a X = rw (any_snoc f l a (λ k. X (suc k))) (assoc (f b && X 0) (any_of f l (λ k. X (suc k))) (f a && X (suc (length l))))
  where
    assoc : (x y z : Bool) → (x || (y || z)) ≡ ((x || y) || z)
    assoc true y z = refl
    assoc false y z = refl

atom_at_lem : (d : Atom) (ks xs ys : List ℕ) → length xs ≡ length ks → length ys ≡ length ks → (p : ℕ) → p < length ks
    → get_or (atoms_of ks xs ys) p d ≡ record { kind = get_or ks p 0; first = get_or xs p 0; second = get_or ys p 0 }
atom_at_lem d [] xs ys e f p lt = absurd (omega arith)
atom_at_lem d (k ∷ ks) [] ys e f p lt = absurd (omega arith)
atom_at_lem d (k ∷ ks) (x ∷ xs) [] e f p lt = absurd (omega arith)
atom_at_lem d (k ∷ ks) (x ∷ xs) (y ∷ ys) e f zero lt = refl
atom_at_lem d (k ∷ ks) (x ∷ xs) (y ∷ ys) e f (suc p) lt = atom_at_lem d ks xs ys (omega arith) (omega arith) p (omega arith)

no_flags_lem : (n i : ℕ) → blank n ≡ flags_from (λ j. false) i n
no_flags_lem zero i = refl
no_flags_lem (suc n) i = ap (λ (l : List ℕ). 0 ∷ l) (no_flags_lem n (suc i))

module _ (kinds firsts seconds fl : List ℕ) (kind width : ℕ) where
  -- the marks of the atoms below i are in
  pub record Marked (marks : List ℕ) (i : ℕ) : Type 0 where
    pub within : i ≤ length kinds
    pub held : marks ≡ flags 2048 (λ j. any_of (is_at kind width j) (take i (atoms_of kinds firsts seconds)) (on fl))

  pub marked_starts : (marks : List ℕ) → marks ≡ blank 2048 → Marked marks 0
  marked_starts marks e = record { within = omega arith; held = e ∙ no_flags_lem 2048 0 }

  module _ (m : Marking kinds firsts seconds width) (marks : List ℕ) (i : ℕ) (w : Marked marks i) where
    size : length (atoms_of kinds firsts seconds) ≡ length kinds
    size = atoms_length kinds firsts seconds m.columns.firsts_long m.columns.seconds_long

    pub marked_more : i < length kinds → (at : ℕ) → at ≡ get_or firsts i 0 * width + get_or seconds i 0 → (marks' : List ℕ)
        → marks' ≡ put ((eqb (get_or kinds i 0) kind && eqb (get_or fl i 0) 1) && ltb at 2048) at marks → Marked marks' (i + 1)
    marked_more lt at ea marks' e =
        let l : List Atom = atoms_of kinds firsts seconds in
        let d : Atom = record { kind = 0; first = 0; second = 0 } in
        let a : get_or (atoms_of kinds firsts seconds) i d ≡ record { kind = get_or kinds i 0; first = get_or firsts i 0; second = get_or seconds i 0 } =
        atom_at_lem d kinds firsts seconds m.columns.firsts_long m.columns.seconds_long i lt in
        let n : length (take i (atoms_of kinds firsts seconds)) ≡ i = length-take-le i (atoms_of kinds firsts seconds) (omega (arith, size)) in
        record {
          within = omega arith;
          held = e ∙ (rw w.held (put_flag (λ j. any_of (is_at kind width j) (take i l) (on fl)) (eqb (get_or kinds i 0) kind) (eqb (get_or fl i 0) 1) at)
              ∙ flags_same (λ j. any_of (is_at kind width j) (take i l) (on fl) || ((eqb (get_or kinds i 0) kind && eqb at j) && eqb (get_or fl i 0) 1)) (λ j. any_of (is_at kind width j) (take (i + 1) l) (on fl)) 2048
              (λ j h. sym (rw (add-one i, take-suc l i d (omega (arith, size)), a, any_snoc, n, ← ea))));
        }

    pub marked_ends : length kinds ≤ i → marks ≡ marks_of kind width (atoms_of kinds firsts seconds) (on fl)
    unfolding marks_of
    marked_ends le = w.held ∙ rw (take_all i (atoms_of kinds firsts seconds) (omega (arith, size)))

pub ruleset markings = (marked_starts)
