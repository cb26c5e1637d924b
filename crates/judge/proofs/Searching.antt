-- Laws of searches for the lowest place that breaks a rule.
use mathlib.Core.Path.{◌≡◌, sym, subst}
use mathlib.Core.Bool.{Bool, true, false}
use mathlib.Core.List.{List}
use Prim.Native.Nat.{ℕ, ◌≤◌, ◌<◌}
use native.Mathlib.Omega.{arith}
use lib.Dec.{T}
use denote.Param.Members.{Mut}
use denote.Ref.{Bor}
use Rattle.std.specs.Prelude.{Option, None, Some, MatchOption}
use Rattle.std.specs.Bool.{⊤}
use Rattle.std.specs.Fn.{CalledAt}
use Rattle.std.specs.Iterator.{YieldsThen}
use Rattle.std.specs.List.{FoldsTo}
use Rattle.std.specs.declared.ops.Range.{Range}
use Rattle.std.proofs.iter.Yields.{nat_range_steps}
use Rattle.std.proofs.lemmas.Iterator.{first_from_Range}
use Rattle.gdl.specs.Game.{Game}
use Rattle.rules.proofs.Judging.{Exact}
use Rattle.judge.specs.Answers.{Searched}

-- a test that is the same below the bound
pub exact_as : {B : ℕ → Type 0} {n m : ℕ} {f g : ℕ → Bool} → Exact B n f → m ≡ n → ((p : ℕ) → p < n → g p ≡ f p) → Exact B m g
exact_as e em same = record {
  inside = λ p b. omega (arith, e.inside p b, em);
  strikes = λ p b. subst T (sym (same p (e.inside p b))) (e.strikes p b);
  broken = λ p lt t. let l : p < _ = omega (arith, em) in e.broken p l (subst T (same p l) t);
}

-- `find` over places finds the lowest that breaks a rule, where what it asks is a test that strikes exactly at such places
module _ {F : Type 0} {g : Mut F (Bor ℕ × Unit {0}) Bool} (Held : Game → Type 0) (Broken : Game → ℕ → Type 0) (test : ℕ → Bool) (s u : Range ℕ) (f : F) (r : Option ℕ) where
  pub find_lowest : ((G : Game) → Held G → Exact (Broken G) s.end test) → s.start ≡ 0
      → (xs : List ℕ) × (j : F) × YieldsThen nat_range_steps s xs r u × FoldsTo (λ p x q. CalledAt g p x false q) f xs j × MatchOption r ⊤ (λ x. (h : F) × CalledAt g j x true h)
      → ((x : ℕ) (b : Bool) (q : F) → CalledAt g f x b q → (q ≡ f) × (b ≡ test x)) → Searched Held Broken r
  find_lowest e z ran calls = found r (first_from_Range s u f r (λ x. true ≡ test x) (λ x. false ≡ test x) ran (λ x q h. (calls x true q h).1) (λ x q h. calls x false q h))
    where
      found : (r : Option ℕ) → MatchOption r ((k : ℕ) → s.start ≤ k → k < s.end → false ≡ test k) (λ i. (s.start ≤ i) × (i < s.end) × (true ≡ test i) × ((k : ℕ) → s.start ≤ k → k < i → false ≡ test k))
          → Searched Held Broken r
      found None none = record { finds = λ G h p b. subst T (sym (none p (omega arith) ((e G h).inside p b))) ((e G h).strikes p b) }
      found (Some i) first = record {
        finds = λ G h. record {
          here = (e G h).broken i first.1 (subst T first.2 tt);
          lowest = λ q lt b. subst T (sym (first.3 q (omega arith) lt)) ((e G h).strikes q b);
        };
      }
