-- What a reading of the table gives depends on what is left of the input alone: two readings that go well, with the same bytes left, give the
-- same and leave the same.
use Rattle.std.specs.Prelude.{if◌then◌else◌, Err}
use mathlib.Core.Path.{◌≡◌, refl, sym, ap, subst, ◌∙◌}
use mathlib.Core.Bool.{Bool, true, false}
use mathlib.Core.List.{List}
use Prim.Native.Nat.{ℕ, zero, suc, ◌+◌, ◌-◌, ◌*◌, ◌≤◌}
use native.Mathlib.Omega.{arith}
use native.Mathlib.Decide.{dec_lt}
use lib.Dec.{ltb, leb, eqb}
use lib.ListN.{length, get_or, drop, length-drop}
use lib.Seq.{get_or-drop, drop-drop}
use borrow.Author.Tests.{le-leb, lt-leb}
use Rattle.numbers.specs.Number.{bits, read, run_at, number_of_two, number_of_three, number_of, number_at}
use Rattle.numbers.specs.declared.Fault.TheVariants.{Long, Large}
use Rattle.numbers.specs.declared.Run.{Run}
use Rattle.numbers.specs.declared.Run.TheVariants.{Cut, One, Two, Three}
use Rattle.numbers.proofs.Reading.{one_within, two_within, three_within}
use Rattle.refusals.specs.declared.Refusal.{Refusal}
use Rattle.refusals.specs.declared.Refusal.TheVariants.{OutOfRange, NotAbove, BytesAfter}
use Rattle.table.specs.Parse.{Parse, ok, fault, after, refuse◌if◌, in_range, bounded}
use Rattle.table.specs.Table.{Bound, Absent, Below, sizes, first_bound, second_bound, field, atom, key, atoms_from, literals, clause, clauses_from, clauses}
use Rattle.table.specs.declared.header.Header.{Header}

-- the same is left of s from n on as of t from m on
pub record Left (s t : List ℕ) (n m : ℕ) : Type 0 where
  pub same : drop n s ≡ drop m t
  pub inside : n ≤ length s
  pub inside' : m ≤ length t

module _ (s t : List ℕ) where
  -- two readings that both go well agree in R, and the same is left
  abbrev pub Agree : {A : Type 0} → (A → A → Type 0) → Parse A → Parse A → Type 0
  Agree R (ok a n) (ok b m) = R a b × Left s t n m
  Agree R (ok a n) (fault g) = Unit {0}
  Agree R (fault f) q = Unit {0}

  -- the same value
  abbrev pub Alike : {A : Type 0} → Parse A → Parse A → Type 0
  Alike p q = Agree (λ a b. a ≡ b) p q

  no_agree : {A : Type 0} (R : A → A → Type 0) (p : Parse A) (g : Refusal) → Agree R p (fault g)
  no_agree R (ok a n) g = tt
  no_agree R (fault f) g = tt

  pub agree_after : {A B : Type 0} (R : A → A → Type 0) (Q : B → B → Type 0) (p q : Parse A) (k l : A → ℕ → Parse B)
      → Agree R p q → ((a b : A) (n m : ℕ) → R a b → Left s t n m → Agree Q (k a n) (l b m)) → Agree Q (after p k) (after q l)
  agree_after R Q (ok a n) (ok b m) k l h f = f a b n m h.0 h.1
  agree_after R Q (ok a n) (fault g) k l h f = no_agree Q (k a n) g
  agree_after R Q (fault f) q k l h g = tt

  -- where the first readings give the same
  pub alike_after : {A B : Type 0} (Q : B → B → Type 0) (p q : Parse A) (k l : A → ℕ → Parse B)
      → Alike p q → ((a : A) (n m : ℕ) → Left s t n m → Agree Q (k a n) (l a m)) → Agree Q (after p k) (after q l)
  alike_after Q p q k l h f = agree_after (λ a b. a ≡ b) Q p q k l h (λ a b n m e w. subst (λ (x : _). Agree Q (k a n) (l x m)) e (f a n m w))

  -- ---- a number

  module _ (n m : ℕ) (w : Left s t n m) where
    byte : (i : ℕ) → get_or s (n + i) 0 ≡ get_or t (m + i) 0
    byte i = sym (get_or-drop n s i 0) ∙ (ap (λ (x : List ℕ). get_or x i 0) w.same ∙ get_or-drop m t i 0)

    left : length s - n ≡ length t - m
    left = sym (length-drop n s) ∙ (ap length w.same ∙ length-drop m t)

    ends : (i : ℕ) → leb (length s) (n + i) ≡ leb (length t) (m + i)
    ends i = elim (dec_lt (n + i) (length s)) [
      | yes lt ↦ lt-leb (length s) (n + i) lt ∙ sym (lt-leb (length t) (m + i) (omega (arith, left, w.inside, w.inside')))
      | no ge ↦ le-leb (length s) (n + i) (omega arith) ∙ sym (le-leb (length t) (m + i) (omega (arith, left, w.inside, w.inside')))
    ]

    first_byte : get_or s n 0 ≡ get_or t m 0
    first_byte = let a : n + 0 ≡ n = omega arith in let b : m + 0 ≡ m = omega arith in rw (a, b) at (byte 0)

    first_end_lem : leb (length s) n ≡ leb (length t) m
    first_end_lem = let a : n + 0 ≡ n = omega arith in let b : m + 0 ≡ m = omega arith in rw (a, b) at (ends 0)

    run_same : run_at s n ≡ run_at t m
    unfolding run_at
    run_same = rw (first_byte, byte 1, byte 2, first_end_lem, ends 1, ends 2) refl

    further : (k : ℕ) → n + k ≤ length s → Left s t (n + k) (m + k)
    further k le = record {
      same = sym (drop-drop k n s) ∙ (ap (drop k) w.same ∙ drop-drop k m t);
      inside = le;
      inside' = omega (arith, left, w.inside, w.inside');
    }

  module _ (lo end n m : ℕ) where
    read_alike : (v i j : ℕ) → Left s t i j → Alike (in_range lo end n (read v i)) (in_range lo end m (read v j))
    read_alike v i j w = go (ltb v lo) (leb end v)
      where
        go : (a b : Bool) → Alike (if a then fault (OutOfRange n) else if b then fault (OutOfRange n) else ok v i) (if a then fault (OutOfRange m) else if b then fault (OutOfRange m) else ok v j)
        go true b = tt
        go false true = tt
        go false false = (refl, w)

    two_alike : (a b i j : ℕ) → Left s t i j → Alike (in_range lo end n (number_of_two a b i)) (in_range lo end m (number_of_two a b j))
    unfolding number_of_two
    two_alike a b i j w = go (eqb b 0)
      where
        go : (x : Bool) → Alike (in_range lo end n (if x then Err Long else read (bits a + 128 * bits b) i)) (in_range lo end m (if x then Err Long else read (bits a + 128 * bits b) j))
        go true = tt
        go false = read_alike (bits a + 128 * bits b) i j w

    three_alike : (a b c i j : ℕ) → Left s t i j → Alike (in_range lo end n (number_of_three a b c i)) (in_range lo end m (number_of_three a b c j))
    unfolding number_of_three
    three_alike a b c i j w = go (eqb c 0) (leb 128 c) (ltb 65535 (bits a + 128 * bits b + 16384 * bits c))
      where
        v : ℕ
        v = bits a + 128 * bits b + 16384 * bits c

        go : (x y z : Bool) → Alike (in_range lo end n (if x then Err Long else if y then Err Large else if z then Err Large else read v i)) (in_range lo end m (if x then Err Long else if y then Err Large else if z then Err Large else read v j))
        go true y z = tt
        go false true z = tt
        go false false true = tt
        go false false false = read_alike v i j w

  pub bounded_alike : (lo end n m : ℕ) → Left s t n m → Alike (bounded lo end s n) (bounded lo end t m)
  unfolding bounded number_at
  bounded_alike lo end n m w = rw (← run_same n m w) (go (run_at s n) refl)
    where
      go : (r : Run) → r ≡ run_at s n → Alike (in_range lo end n (number_of r n)) (in_range lo end m (number_of r m))
      go Cut e = tt
      go (One a) e = read_alike lo end n m (bits a) (n + 1) (m + 1) (further n m w 1 (one_within s n e refl))
      go (Two a b) e = two_alike lo end n m a b (n + 2) (m + 2) (further n m w 2 (two_within s n e refl))
      go (Three a b c) e = three_alike lo end n m a b c (n + 3) (m + 3) (further n m w 3 (three_within s n e refl))

  -- ---- the parts of a table after its claim

  test_alike : (f g : Refusal) (a b : Bool) (n m : ℕ) → Left s t n m → Alike ((refuse f if a) s n) ((refuse g if b) t m)
  test_alike f g false false n m w = (refl, w)
  test_alike f g false true n m w = tt
  test_alike f g true b n m w = tt

  pub sizes_alike : (n m : ℕ) → Left s t n m → Alike (sizes s n) (sizes t m)
  unfolding sizes
  sizes_alike n m w =
      alike_after _ (bounded 0 513 s n) (bounded 0 513 t m) _ _ (bounded_alike 0 513 n m w) λ fluents n1 m1 w1.
      alike_after _ (bounded 1 257 s n1) (bounded 1 257 t m1) _ _ (bounded_alike 1 257 n1 m1 w1) λ moves n2 m2 w2.
      alike_after _ (bounded 0 257 s n2) (bounded 0 257 t m2) _ _ (bounded_alike 0 257 n2 m2 w2) λ percepts n3 m3 w3.
      alike_after _ (bounded 1 1025 s n3) (bounded 1 1025 t m3) _ _ (bounded_alike 1 1025 n3 m3 w3) λ atoms n4 m4 w4. (refl, w4)

  field_alike : (b : Bound) (n m : ℕ) → Left s t n m → Alike (field b s n) (field b t m)
  unfolding field
  field_alike Absent n m w = (refl, w)
  field_alike (Below e) n m w = bounded_alike 0 e n m w

  -- the bounds of the fields are the same for two headers
  module _ (h g : Header) (first : (k : ℕ) → first_bound h k ≡ first_bound g k) (second : (k : ℕ) → second_bound h k ≡ second_bound g k) where
    atom_alike : (n m : ℕ) → Left s t n m → Alike (atom h s n) (atom g t m)
    unfolding atom
    atom_alike n m w =
        alike_after _ (bounded 0 10 s n) (bounded 0 10 t m) _ _ (bounded_alike 0 10 n m w) λ kind n1 m1 w1.
        rw (first kind, second kind)
        (alike_after _ (field (first_bound g kind) s n1) (field (first_bound g kind) t m1) _ _ (field_alike (first_bound g kind) n1 m1 w1) λ one n2 m2 w2.
        alike_after _ (field (second_bound g kind) s n2) (field (second_bound g kind) t m2) _ _ (field_alike (second_bound g kind) n2 m2 w2) λ two n3 m3 w3. (refl, w3))

    pub atoms_alike : (k least n m : ℕ) → Left s t n m → Alike (atoms_from h k least s n) (atoms_from g k least t m)
    unfolding atoms_from
    atoms_alike zero least n m w = (refl, w)
    atoms_alike (suc k) least n m w =
        alike_after _ (atom h s n) (atom g t m) _ _ (atom_alike n m w) λ a n1 m1 w1.
        alike_after _ ((refuse (NotAbove n) if (ltb (key a) least)) s n1) ((refuse (NotAbove m) if (ltb (key a) least)) t m1) _ _
        (test_alike (NotAbove n) (NotAbove m) (ltb (key a) least) (ltb (key a) least) n1 m1 w1) λ _ n2 m2 w2.
        alike_after _ (atoms_from h k (key a + 1) s n2) (atoms_from g k (key a + 1) t m2) _ _ (atoms_alike k (key a + 1) n2 m2 w2) λ rest n3 m3 w3. (refl, w3)

  literals_alike : (k end n m : ℕ) → Left s t n m → Alike (literals k end s n) (literals k end t m)
  unfolding literals
  literals_alike zero end n m w = (refl, w)
  literals_alike (suc k) end n m w =
      alike_after _ (bounded 0 end s n) (bounded 0 end t m) _ _ (bounded_alike 0 end n m w) λ x n1 m1 w1.
      alike_after _ (literals k end s n1) (literals k end t m1) _ _ (literals_alike k end n1 m1 w1) λ xs n2 m2 w2. (refl, w2)

  clause_alike : (A room n m : ℕ) → Left s t n m → Alike (clause A room s n) (clause A room t m)
  unfolding clause
  clause_alike A room n m w =
      alike_after _ (bounded 0 A s n) (bounded 0 A t m) _ _ (bounded_alike 0 A n m w) λ head n1 m1 w1.
      alike_after _ (bounded 0 65 s n1) (bounded 0 65 t m1) _ _ (bounded_alike 0 65 n1 m1 w1) λ count n2 m2 w2.
      alike_after _ ((refuse (OutOfRange n1) if (ltb room count)) s n2) ((refuse (OutOfRange m1) if (ltb room count)) t m2) _ _
      (test_alike (OutOfRange n1) (OutOfRange m1) (ltb room count) (ltb room count) n2 m2 w2) λ _ n3 m3 w3.
      alike_after _ (literals count (2 * A) s n3) (literals count (2 * A) t m3) _ _ (literals_alike count (2 * A) n3 m3 w3) λ body n4 m4 w4. (refl, w4)

  clauses_from_alike : (k A room n m : ℕ) → Left s t n m → Alike (clauses_from k A room s n) (clauses_from k A room t m)
  unfolding clauses_from
  clauses_from_alike zero A room n m w = (refl, w)
  clauses_from_alike (suc k) A room n m w =
      alike_after _ (clause A room s n) (clause A room t m) _ _ (clause_alike A room n m w) λ c n1 m1 w1.
      alike_after _ (clauses_from k A (room - length c.body) s n1) (clauses_from k A (room - length c.body) t m1) _ _ (clauses_from_alike k A (room - length c.body) n1 m1 w1) λ cs n2 m2 w2. (refl, w2)

  pub clauses_alike : (A n m : ℕ) → Left s t n m → Alike (clauses A s n) (clauses A t m)
  unfolding clauses
  clauses_alike A n m w =
      alike_after _ (bounded 0 2049 s n) (bounded 0 2049 t m) _ _ (bounded_alike 0 2049 n m w) λ C n1 m1 w1.
      alike_after _ (clauses_from C A 8192 s n1) (clauses_from C A 8192 t m1) _ _ (clauses_from_alike C A 8192 n1 m1 w1) λ cs n2 m2 w2.
      alike_after _ ((refuse (BytesAfter n2) if (ltb n2 (length s))) s n2) ((refuse (BytesAfter m2) if (ltb m2 (length t))) t m2) _ _
      (test_alike (BytesAfter n2) (BytesAfter m2) (ltb n2 (length s)) (ltb m2 (length t)) n2 m2 w2) λ _ n3 m3 w3. (refl, w3)
