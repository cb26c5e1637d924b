-- What a caller may count on in a value that was read.
use Prim.Native.Nat.{ℕ, ◌≤◌, ◌<◌}
use native.Mathlib.Omega.{arith}
use mathlib.Core.Path.{◌≡◌}
use mathlib.Core.List.{List}
use lib.ListN.{length}
use lib.Dec.{ltb, leb}
use borrow.Author.Tests.{ltb-false, leb-false}
use Rattle.numbers.specs.Number.{number_at}
use Rattle.numbers.proofs.Reading as N
use Rattle.numbers.proofs.Reading.{by_test}
use Rattle.std.specs.Prelude.{Result, Ok, Err}
use Rattle.numbers.specs.declared.Item.{Item}
use Rattle.numbers.specs.declared.Fault.{Fault}
use Rattle.table.specs.Parse.{Parse, ok, fault, after, in_range, bounded}
use Rattle.table.specs.Table.{players, sizes, header}
use Rattle.table.specs.declared.header.Header.{Header}

-- what holds of every value that a reading gives
abbrev pub All : {A : Type 0} → (A → ℕ → Type 0) → Parse A → Type 0
All P (ok a n) = P a n
All P (fault f) = Unit {0}

pub all_after : {A B : Type 0} (P : A → ℕ → Type 0) (Q : B → ℕ → Type 0) (p : Parse A) (k : A → ℕ → Parse B)
    → All P p → ((a : A) (n : ℕ) → P a n → All Q (k a n)) → All Q (after p k)
all_after P Q (ok a n) k h f = f a n h
all_after P Q (fault g) k h f = tt

-- a number that was read: within its range, and the place after it is further on and within the input
pub record Fine (s : List ℕ) (at lo end v n : ℕ) : Type 0 where
  pub low : lo ≤ v
  pub high : v < end
  pub on : at < n
  pub in_it : n ≤ length s

in_range_lem : (s : List ℕ) (at lo end : ℕ) (x : Result Item Fault) → N.Sound s at x → All (Fine s at lo end) (in_range lo end at x)
in_range_lem s at lo end (Ok i) h =
    by_test (All (Fine s at lo end)) (ltb i.value lo) (λ _. tt) λ l.
    by_test (All (Fine s at lo end)) (leb end i.value) (λ _. tt) λ u.
    record { low = ltb-false i.value lo l; high = leb-false end i.value u; on = h.0; in_it = h.1 }
in_range_lem s at lo end (Err f) h = tt

pub bounded_fine : (lo end : ℕ) (s : List ℕ) (at : ℕ) → All (Fine s at lo end) (bounded lo end s at)
unfolding bounded
bounded_fine lo end s at = in_range_lem s at lo end (number_at s at) (N.sound s at)

pub read_below : (v n lo end : ℕ) (s : List ℕ) (at : ℕ) → ok v n ≡ bounded lo end s at → v < end
read_below v n lo end s at e = let f : Fine s at lo end v n = rw (← e) at (bounded_fine lo end s at) in f.high

pub sizes_fine : (s : List ℕ) (at : ℕ) → All (λ z n. z.atoms ≤ 1024) (sizes s at)
unfolding sizes
sizes_fine s at =
    all_after _ _ (bounded 0 513 s at) _ (bounded_fine 0 513 s at) λ a n1 _.
    all_after _ _ (bounded 1 257 s n1) _ (bounded_fine 1 257 s n1) λ b n2 _.
    all_after _ _ (bounded 0 257 s n2) _ (bounded_fine 0 257 s n2) λ c n3 _.
    all_after _ _ (bounded 1 1025 s n3) _ (bounded_fine 1 1025 s n3) λ d n4 h. omega arith

pub any : {A : Type 0} (p : Parse A) → All (λ a n. Unit {0}) p
any (ok a n) = tt
any (fault f) = tt

pub header_fine : (s : List ℕ) (at : ℕ) → All (λ h n. h.sizes.atoms ≤ 1024) (header s at)
unfolding header
header_fine s at = all_after _ _ (players s at) _ (any (players s at)) λ p n _. all_after _ _ (sizes s n) _ (sizes_fine s n) λ z m h. h

pub few_atoms_lem : (h : Header) (n : ℕ) (s : List ℕ) (at : ℕ) → ok h n ≡ header s at → h.sizes.atoms ≤ 1024
few_atoms_lem h n s at e = rw (← e) at (header_fine s at)

pub ruleset belows = (read_below, few_atoms_lem)
