-- Laws of reading: which case holds under which tests; that reading goes on within the input, to a value of at most 65,535.
use Rattle.std.specs.Prelude.{if◌then◌else◌}
use Prim.Native.Nat.{ℕ, ◌+◌, ◌%◌, ◌*◌, ◌≤◌, ◌<◌}
use native.Mathlib.Omega.{arith}
use mathlib.Core.Bool.{Bool, true, false}
use mathlib.Core.Path.{◌≡◌, refl, subst}
use mathlib.Core.List.{List}
use lib.ListN.{length, get_or}
use lib.Dec.{leb, ltb, eqb}
use borrow.Author.Tests.{leb-false, ltb-false, le-ltb, lt-ltb, le-leb, lt-leb, eq-eqb, ne_eqb}
use Rattle.numbers.specs.Number.{read, run_at, number_of, number_of_two, number_of_three, number_at}
use Rattle.std.specs.Prelude.{Result, Ok, Err}
use Rattle.numbers.specs.declared.Item.{Item}
use Rattle.numbers.specs.declared.Fault.{Fault}
use Rattle.numbers.specs.declared.Fault.TheVariants.{Long, Large}
use Rattle.numbers.specs.declared.Fault.TheVariants as F
use Rattle.numbers.specs.declared.Run.{Run}
use Rattle.numbers.specs.declared.Run.TheVariants.{Cut, One, Two, Three}

-- a fact about a choice
pub by_test : {A : Type 0} (P : A → Type 0) (t : Bool) {x y : A} → (t ≡ true → P x) → (t ≡ false → P y) → P (if t then x else y)
by_test P true f g = f refl
by_test P false f g = g refl

-- ---- the run at a place

module _ (s : List ℕ) (at : ℕ) where
  pub cut_1 : length s ≤ at → Cut ≡ run_at s at
  unfolding run_at
  cut_1 h = simp (run_at, le-leb)

  module _ (a : ℕ) (ea : a ≡ get_or s at 0) (ha : at < length s) where
    pub one : a < 128 → One a ≡ run_at s at
    unfolding run_at
    one h = simp (run_at, ← ea, lt-leb, lt-ltb)

    pub cut_2 : 128 ≤ a → length s ≤ at + 1 → Cut ≡ run_at s at
    unfolding run_at
    cut_2 h k = simp (run_at, ← ea, lt-leb, le-leb, le-ltb)

    module _ (b : ℕ) (eb : b ≡ get_or s (at + 1) 0) (ga : 128 ≤ a) (hb : at + 1 < length s) where
      pub two : b < 128 → Two a b ≡ run_at s at
      unfolding run_at
      two h = simp (run_at, ← ea, ← eb, lt-leb, le-ltb, lt-ltb)

      pub cut_3 : 128 ≤ b → length s ≤ at + 2 → Cut ≡ run_at s at
      unfolding run_at
      cut_3 gb h = simp (run_at, ← ea, ← eb, lt-leb, le-leb, le-ltb)

      pub three : (c : ℕ) → c ≡ get_or s (at + 2) 0 → 128 ≤ b → at + 2 < length s → Three a b c ≡ run_at s at
      unfolding run_at
      three c ec gb hc = simp (run_at, ← ea, ← eb, ← ec, lt-leb, le-ltb)

pub ruleset runs = (cut_1, one, cut_2, two, cut_3, three)

-- ---- the number of two bytes, and of three

module _ (a b next : ℕ) where
  pub two_long : b ≡ 0 → Err Long ≡ number_of_two a b next
  unfolding number_of_two
  two_long h = simp (number_of_two, eq-eqb)

  pub two_read : (b ≡ 0 → ⊥) → read (a % 128 + 128 * (b % 128)) next ≡ number_of_two a b next
  unfolding number_of_two
  two_read h = simp (number_of_two, ne_eqb)

  module _ (c : ℕ) where
    pub three_long : c ≡ 0 → Err Long ≡ number_of_three a b c next
    unfolding number_of_three
    three_long h = simp (number_of_three, eq-eqb)

    module _ (n : c ≡ 0 → ⊥) where
      pub three_bit : 128 ≤ c → Err Large ≡ number_of_three a b c next
      unfolding number_of_three
      three_bit h = simp (number_of_three, ne_eqb, le-leb)

      module _ (h : c < 128) where
        pub three_large : 65535 < a % 128 + 128 * (b % 128) + 16384 * (c % 128) → Err Large ≡ number_of_three a b c next
        unfolding number_of_three
        three_large l = simp (number_of_three, ne_eqb, lt-leb, lt-ltb)

        pub three_read : a % 128 + 128 * (b % 128) + 16384 * (c % 128) ≤ 65535 → read (a % 128 + 128 * (b % 128) + 16384 * (c % 128)) next ≡ number_of_three a b c next
        unfolding number_of_three
        three_read l = simp (number_of_three, ne_eqb, lt-leb, le-ltb)

pub ruleset values = (two_long, two_read, three_long, three_bit, three_large, three_read)

-- ---- the number at a place

module _ (s : List ℕ) (at : ℕ) (r : Run) (e : r ≡ run_at s at) where
  pub at_cut : r ≡ Cut → Err F.Cut ≡ number_at s at
  unfolding number_at
  at_cut h = rw (← e, h)

  pub at_one : (a : ℕ) → r ≡ One a → read (a % 128) (at + 1) ≡ number_at s at
  unfolding number_at
  at_one a h = rw (← e, h)

  pub at_two : (a b : ℕ) (n : Result Item Fault) → r ≡ Two a b → n ≡ number_of_two a b (at + 2) → n ≡ number_at s at
  unfolding number_at
  at_two a b n h k = rw (← e, h, k)

  pub at_three : (a b c : ℕ) (n : Result Item Fault) → r ≡ Three a b c → n ≡ number_of_three a b c (at + 3) → n ≡ number_at s at
  unfolding number_at
  at_three a b c n h k = rw (← e, h, k)

pub ruleset places = (at_cut, at_one, at_two, at_three)

-- ---- what a reader may count on

-- a run stands within the input
abbrev Within : List ℕ → ℕ → Run → Type 0
Within s at Cut = Unit {0}
Within s at (One a) = at + 1 ≤ length s
Within s at (Two a b) = at + 2 ≤ length s
Within s at (Three a b c) = at + 3 ≤ length s

within : (s : List ℕ) (at : ℕ) → Within s at (run_at s at)
unfolding run_at
within s at =
    let P = Within s at in
    let a = get_or s at 0 in
    let b = get_or s (at + 1) 0 in
    by_test P (leb (length s) at) (λ _. tt) λ h.
    by_test P (ltb a 128) (λ t. omega (arith, leb-false)) λ _.
    by_test P (leb (length s) (at + 1)) (λ _. tt) λ k.
    by_test P (ltb b 128) (λ t. omega (arith, leb-false)) λ _.
    by_test P (leb (length s) (at + 2)) (λ _. tt) λ l. omega (arith, leb-false)

-- a run that was read leaves room for the place after it
module _ (s : List ℕ) (at : ℕ) {r : Run} (e : r ≡ run_at s at) where
  pub one_within : {a : ℕ} → r ≡ One a → at + 1 ≤ length s
  one_within h = subst (Within s at) h (rw e (within s at))

  pub two_within : {a b : ℕ} → r ≡ Two a b → at + 2 ≤ length s
  two_within h = subst (Within s at) h (rw e (within s at))

  pub three_within : {a b c : ℕ} → r ≡ Three a b c → at + 3 ≤ length s
  three_within h = subst (Within s at) h (rw e (within s at))

pub ruleset withins = (one_within, two_within, three_within)

-- "The largest value is 65,535", and the next place is further on and within the input
abbrev pub Sound : List ℕ → ℕ → Result Item Fault → Type 0
Sound s at (Ok i) = (at < i.next) × (i.next ≤ length s) × (i.value < 65536)
Sound s at (Err f) = Unit {0}

two_sound : (s : List ℕ) (at a b : ℕ) → at + 2 ≤ length s → Sound s at (number_of_two a b (at + 2))
unfolding number_of_two
two_sound s at a b h = by_test (Sound s at) (eqb b 0) (λ _. tt) λ _. omega arith

three_sound : (s : List ℕ) (at a b c : ℕ) → at + 3 ≤ length s → Sound s at (number_of_three a b c (at + 3))
unfolding number_of_three
three_sound s at a b c h =
    by_test (Sound s at) (eqb c 0) (λ _. tt) λ _.
    by_test (Sound s at) (leb 128 c) (λ _. tt) λ _.
    by_test (Sound s at) (ltb 65535 (a % 128 + 128 * (b % 128) + 16384 * (c % 128))) (λ _. tt) λ l. omega (arith, ltb-false)

pub sound : (s : List ℕ) (at : ℕ) → Sound s at (number_at s at)
unfolding number_at
sound s at = go (run_at s at) (within s at)
  where
    go : (r : Run) → Within s at r → Sound s at (number_of r at)
    go Cut h = tt
    go (One a) h = omega arith
    go (Two a b) h = two_sound s at a b h
    go (Three a b c) h = three_sound s at a b c h

pub read_sound : (s : List ℕ) (at : ℕ) {v n : ℕ} → number_at s at ≡ read v n → (at < n) × (n ≤ length s) × (v < 65536)
read_sound s at e = subst (Sound s at) e (sound s at)
