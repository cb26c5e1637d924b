-- The promises of this crate determine the answers: any two that they allow are equal lists.
use mathlib.Core.Path.{◌≡◌, refl, sym, ◌∙◌}
use mathlib.Core.List.{List}
use Prim.Native.Nat.{ℕ, ◌<◌, ◌≤◌}
use native.Mathlib.Omega.{arith}
use native.Mathlib.Decide.{ℕ_discrete, dec_lt}
use lib.Dec.{eqb→eq}
use lib.ListN.{length, get_or}
use lib.Seq.{ext_get_or}
use Rattle.gdl.specs.Flags.{on}
use Rattle.gdl.proofs.Tests.{eq→eqb}
use Rattle.edges.specs.Graph.{end_of}
use Rattle.edges.specs.Closure.{Closes}
use Rattle.edges.specs.Uses.{FirstUse, Ends, Indexed}

pub closes_determined : {Brings : ℕ → ℕ → Type 0} {seeds : List ℕ} (r s : List ℕ) → Closes Brings seeds r → Closes Brings seeds s → r ≡ s
closes_determined {Brings} {seeds} r s a b = ext_get_or 0 r s (a.long ∙ sym b.long) (λ p lt. elim (ℕ_discrete (get_or r p 0) 1) [
  | yes e ↦ e ∙ sym (under r s a b p e)
  | no ne ↦ let no : get_or s p 0 ≡ 1 → ⊥ = λ e. ne (under s r b a p e) in omega (arith, a.flags p, b.flags p)
])
  where
    under : (r s : List ℕ) → Closes Brings seeds r → Closes Brings seeds s → (p : ℕ) → get_or r p 0 ≡ 1 → get_or s p 0 ≡ 1
    under r s a b p e = eqb→eq (get_or s p 0) 1 (a.least.least (on s) b.least.holds b.least.shut p (eq→eqb (get_or r p 0) 1 e))

-- one lowest use
one_use : {Use : ℕ → ℕ → Type 0} {many past a low : ℕ} (x y : ℕ) → FirstUse Use many past a low x → FirstUse Use many past a low y → x ≡ y
one_use {Use} {many} {past} {a} {low} x y u v =
    let no : x < y → ⊥ = λ lt. below x y u v lt in
    let on : y < x → ⊥ = λ lt. below y x v u lt in
    omega arith
  where
    below : (x y : ℕ) → FirstUse Use many past a low x → FirstUse Use many past a low y → x < y → ⊥
    below x y u v lt =
        let inside : many ≤ x → ⊥ = λ le. omega (arith, u.none le, v.none (omega arith)) in
        omega (arith, v.lowest x u.from (omega arith) (u.uses (omega arith)))

pub index_determined : {to first next first' next' : List ℕ} → Ends to → Indexed to first next → Indexed to first' next' → (first ≡ first') × (next ≡ next')
index_determined {to} {first} {next} {first'} {next'} ends a b = (
  ext_get_or 0 first first' (a.first_long ∙ sym b.first_long) (λ p lt. one_use (get_or first p 0) (get_or first' p 0) (a.chained.firsts p (omega (arith, a.first_long))) (b.chained.firsts p (omega (arith, a.first_long)))),
  ext_get_or 0 next next' (a.next_long ∙ sym b.next_long) (λ k lt. next_same k (omega (arith, a.next_long))),
)
  where
    next_same : (k : ℕ) → k < 8192 → get_or next k 0 ≡ get_or next' k 0
    next_same k lt = elim (dec_lt k (length to)) [
      | yes here ↦ one_use (get_or next k 0) (get_or next' k 0) (a.chained.nexts (end_of to k) k (ends.nodes k here) (omega arith) here refl) (b.chained.nexts (end_of to k) k (ends.nodes k here) (omega arith) here refl)
      | no past ↦ a.rest k (omega arith) lt ∙ sym (b.rest k (omega arith) lt)
    ]
