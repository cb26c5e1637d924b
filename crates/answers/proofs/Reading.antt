-- What marks say: the fields of atoms that are in a set, read as end, legal moves, goals, positions and percepts.
use mathlib.Core.Path.{◌≡◌, refl, sym, ap, ap₂, subst, ◌∙◌}
use mathlib.Core.Bool.{Bool, true, false, ◌&&◌, ◌||◌}
use mathlib.Core.List.{List, [], ◌∷◌}
use Prim.Native.Nat.{ℕ, suc, ◌+◌, ◌*◌, ◌/◌, ◌%◌, ◌≤◌, ◌<◌}
use native.Mathlib.Omega.{arith}
use lib.Arith.{digits_div, digits_mod}
use lib.Dec.{T, eqb, eqb→eq}
use lib.ListN.{length, get_or}
use Rattle.gdl.specs.Game.{Atom, Game, is_atom, atom_at, kind_of}
use Rattle.gdl.specs.Sets.{Atoms}
use Rattle.gdl.specs.Flags.{bit}
use Rattle.gdl.specs.Computed.{any_of}
use Rattle.gdl.proofs.Tests.{and_left, and_right, and_both, same, eq→eqb}
use Rattle.gdl.proofs.Reading.{any_find}
use Rattle.gdl.proofs.Walks.{flag_is}
use Rattle.rules.specs.Limits.{Limits, first_end, second_end}
use Rattle.truth.specs.Marks.{is_at, marks_of}
use Rattle.calls.specs.Position.{atom_in}

-- ---- one atom

module _ (k : ℕ) (a : Atom) where
  -- in rows of 256, a second field below 256
  at_256 : (i : ℕ) → (T (eqb a.kind k) → a.second < 256) → is_at k 256 i a ≡ is_atom k (i / 256) (i % 256) a
  at_256 i small = same (is_at k 256 i a) (is_atom k (i / 256) (i % 256) a)
      (λ t.
      let kt : T (eqb a.kind k) = and_left (eqb a.kind k) (eqb (a.first * 256 + a.second) i) t in
      let e : a.first * 256 + a.second ≡ i = eqb→eq (a.first * 256 + a.second) i (and_right (eqb a.kind k) (eqb (a.first * 256 + a.second) i) t) in
      let lt : a.second < 256 = small kt in
      and_both (eqb a.kind k) (eqb a.first (i / 256) && eqb a.second (i % 256)) kt
      (and_both (eqb a.first (i / 256)) (eqb a.second (i % 256)) (eq→eqb a.first (i / 256) (sym (digits_div a.first lt) ∙ ap (λ (x : ℕ). x / 256) e))
      (eq→eqb a.second (i % 256) (sym (digits_mod a.first lt) ∙ ap (λ (x : ℕ). x % 256) e))))
      (λ t.
      let kt : T (eqb a.kind k) = and_left (eqb a.kind k) (eqb a.first (i / 256) && eqb a.second (i % 256)) t in
      let r : T (eqb a.first (i / 256) && eqb a.second (i % 256)) = and_right (eqb a.kind k) (eqb a.first (i / 256) && eqb a.second (i % 256)) t in
      let x : a.first ≡ i / 256 = eqb→eq a.first (i / 256) (and_left (eqb a.first (i / 256)) (eqb a.second (i % 256)) r) in
      let y : a.second ≡ i % 256 = eqb→eq a.second (i % 256) (and_right (eqb a.first (i / 256)) (eqb a.second (i % 256)) r) in
      and_both (eqb a.kind k) (eqb (a.first * 256 + a.second) i) kt (eq→eqb (a.first * 256 + a.second) i (rw (x, y) (omega arith))))

  -- in rows of 1, no second field
  at_1 : (f : ℕ) → (T (eqb a.kind k) → a.second < 1) → is_at k 1 f a ≡ is_atom k f 0 a
  at_1 f none = same (is_at k 1 f a) (is_atom k f 0 a)
      (λ t.
      let kt : T (eqb a.kind k) = and_left (eqb a.kind k) (eqb (a.first * 1 + a.second) f) t in
      let e : a.first * 1 + a.second ≡ f = eqb→eq (a.first * 1 + a.second) f (and_right (eqb a.kind k) (eqb (a.first * 1 + a.second) f) t) in
      let lt : a.second < 1 = none kt in
      and_both (eqb a.kind k) (eqb a.first f && eqb a.second 0) kt
      (and_both (eqb a.first f) (eqb a.second 0) (eq→eqb a.first f (omega arith)) (eq→eqb a.second 0 (omega arith))))
      (λ t.
      let kt : T (eqb a.kind k) = and_left (eqb a.kind k) (eqb a.first f && eqb a.second 0) t in
      let r : T (eqb a.first f && eqb a.second 0) = and_right (eqb a.kind k) (eqb a.first f && eqb a.second 0) t in
      let x : a.first ≡ f = eqb→eq a.first f (and_left (eqb a.first f) (eqb a.second 0) r) in
      let y : a.second ≡ 0 = eqb→eq a.second 0 (and_right (eqb a.first f) (eqb a.second 0) r) in
      and_both (eqb a.kind k) (eqb (a.first * 1 + a.second) f) kt (eq→eqb (a.first * 1 + a.second) f (omega arith)))

-- ---- all atoms

any_tests : (f g : Atom → Bool) (d : Atom) (l : List Atom) (X : Atoms) → ((p : ℕ) → p < length l → f (get_or l p d) ≡ g (get_or l p d)) → any_of f l X ≡ any_of g l X
any_tests f g d [] X h = refl
any_tests f g d (a ∷ l) X h = ap₂ (λ (x y : Bool). (x && X 0) || y) (h 0 (omega arith)) (any_tests f g d l (λ k. X (suc k)) (λ p lt. h (suc p) (omega arith)))

bit_is : (b : Bool) → eqb (bit b) 1 ≡ b
bit_is true = refl
bit_is false = refl

module _ (G : Game) (L : Limits G) (X : Atoms) (k : ℕ) where
  d : Atom
  d = record { kind = 0; first = 0; second = 0 }

  below_end : (n : ℕ) → second_end G k ≤ n → (p : ℕ) → p < length G.atoms → T (eqb (atom_at G p).kind k) → (atom_at G p).second < n
  below_end n h p lt t =
      let s : (atom_at G p).second < second_end G (kind_of G p) = L.seconds p lt in
      let e : kind_of G p ≡ k = eqb→eq (kind_of G p) k t in
      let r : (atom_at G p).second < second_end G k = subst (λ (x : ℕ). (atom_at G p).second < second_end G x) e s in
      omega arith

  pub wide_at : second_end G k ≤ 256 → (i : ℕ) → any_of (is_at k 256 i) G.atoms X ≡ atom_in G X k (i / 256) (i % 256)
  unfolding d
  wide_at h i = any_tests (is_at k 256 i) (is_atom k (i / 256) (i % 256)) d G.atoms X (λ p lt. at_256 k (atom_at G p) i (below_end 256 h p lt))

  pub thin_at : second_end G k ≤ 1 → (f : ℕ) → any_of (is_at k 1 f) G.atoms X ≡ atom_in G X k f 0
  unfolding d
  thin_at h f = any_tests (is_at k 1 f) (is_atom k f 0) d G.atoms X (λ p lt. at_1 k (atom_at G p) f (below_end 1 h p lt))

  -- a mark of the seat s and the second field m
  pub wide_mark : second_end G k ≤ 256 → (marks : List ℕ) → marks ≡ marks_of k 256 G.atoms X → (s m : ℕ) → m < 256 → s * 256 + m < 2048 → eqb (get_or marks (s * 256 + m) 0) 1 ≡ atom_in G X k s m
  unfolding marks_of
  wide_mark h marks e s m small lt =
      let i : ℕ = s * 256 + m in
      let a : eqb (get_or marks i 0) 1 ≡ any_of (is_at k 256 i) G.atoms X =
      ap (λ (l : List ℕ). eqb (get_or l i 0) 1) e ∙ rw (flag_is (λ j. any_of (is_at k 256 j) G.atoms X) 2048 i lt) (bit_is (any_of (is_at k 256 i) G.atoms X)) in
      let b : atom_in G X k (i / 256) (i % 256) ≡ atom_in G X k s m = rw (digits_div s small, digits_mod s small) in
      a ∙ (wide_at h i ∙ b)

  pub thin_mark : second_end G k ≤ 1 → (marks : List ℕ) → marks ≡ marks_of k 1 G.atoms X → (f : ℕ) → f < 2048 → eqb (get_or marks f 0) 1 ≡ atom_in G X k f 0
  unfolding marks_of
  thin_mark h marks e f lt =
      ap (λ (l : List ℕ). eqb (get_or l f 0) 1) e ∙ (rw (flag_is (λ i. any_of (is_at k 1 i) G.atoms X) 2048 f lt) (bit_is (any_of (is_at k 1 f) G.atoms X)) ∙ thin_at h f)

  -- an atom that is in has its fields in their bounds
  pub fits : (x y : ℕ) → T (atom_in G X k x y) → (x < first_end G k) × (y < second_end G k)
  unfolding d
  fits x y t =
      let r = any_find (is_atom k x y) d G.atoms X t in
      go (atom_at G r.0) r.2 (L.firsts r.0 r.1) (L.seconds r.0 r.1)
    where
      go : (a : Atom) → T (is_atom k x y a) → a.first < first_end G a.kind → a.second < second_end G a.kind → (x < first_end G k) × (y < second_end G k)
      go a n b c =
          let q : T (eqb a.first x && eqb a.second y) = and_right (eqb a.kind k) (eqb a.first x && eqb a.second y) n in
          let ek : a.kind ≡ k = eqb→eq a.kind k (and_left (eqb a.kind k) (eqb a.first x && eqb a.second y) n) in
          let ex : a.first ≡ x = eqb→eq a.first x (and_left (eqb a.first x) (eqb a.second y) q) in
          let ey : a.second ≡ y = eqb→eq a.second y (and_right (eqb a.first x) (eqb a.second y) q) in
          (rw (ek, ex) at b, rw (ek, ey) at c)

  pub only_fitting : (a b : Bool) → (T b → T a) → b ≡ (a && b)
  only_fitting true b h = refl
  only_fitting false true h = absurd (h tt)
  only_fitting false false h = refl
