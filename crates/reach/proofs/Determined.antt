-- The promise determines the flags, and they are those of the computed reach.
use mathlib.Core.Path.{◌≡◌, refl, sym, ap, ◌∙◌}
use mathlib.Core.Logic.{inl, inr}
use mathlib.Core.Bool.{not}
use mathlib.Core.List.{List, [], ◌∷◌, ◌++◌}
use Prim.Native.Nat.{ℕ, zero, suc, ◌-◌, ◌≤◌}
use native.Mathlib.Omega.{arith}
use native.Mathlib.Decide.{ℕ_discrete}
use lib.Dec.{eqb→eq}
use lib.ListN.{length, get_or, length-append, length-replicate}
use lib.Seq.{ext_get_or}
use Rattle.gdl.specs.Game.{Game, does_kind, is_atom}
use Rattle.gdl.specs.Sets.{◌⊆◌}
use Rattle.gdl.specs.Reach.{Reach}
use Rattle.gdl.specs.Valid.{Valid}
use Rattle.gdl.specs.Flags.{on, blank}
use Rattle.gdl.specs.Computed.{reach_of, any_of, hidden}
use Rattle.gdl.proofs.Tests.{eq→eqb}
use Rattle.gdl.proofs.Bits.{bits_at, reach_bits}
use Rattle.gdl.proofs.Reading.{any_agree}
use Rattle.gdl.proofs.Reaching.{reach_is, reach_only, reach_length}
use Rattle.edges.proofs.Setting.{blank_at}
use Rattle.gdl.specs.declared.arrays.AtomArrays.{AtomArrays}
use Rattle.gdl.specs.declared.arrays.ClauseArrays.{ClauseArrays}
use Rattle.reach.specs.Promise.{Laid, Ready, Reached}

-- flags, 0 or 1, that are 1 at the same places
same_flags : (r s : List ℕ) → length r ≡ length s → ((p : ℕ) → get_or r p 0 ≤ 1) → ((p : ℕ) → get_or s p 0 ≤ 1) → on r ⊆ on s → on s ⊆ on r → r ≡ s
same_flags r s e a b f g = ext_get_or 0 r s e (λ p lt. at p)
  where
    at : (p : ℕ) → get_or r p 0 ≡ get_or s p 0
    at p = elim (ℕ_discrete (get_or r p 0) 1) [
      | yes h ↦ h ∙ sym (eqb→eq (get_or s p 0) 1 (f p (eq→eqb (get_or r p 0) 1 h)))
      | no n ↦
          let m : get_or s p 0 ≡ 1 → ⊥ = λ h. n (eqb→eq (get_or r p 0) 1 (g p (eq→eqb (get_or s p 0) 1 h))) in
          omega (arith, a p, b p)
    ]

pub reached_unique : {G : Game} {seat : ℕ} {r s : List ℕ} → Reached G seat r → Reached G seat s → r ≡ s
reached_unique {r = r} {s = s} a b = same_flags r s (a.long ∙ sym b.long) a.bits b.bits (a.reach.least (on s) b.reach.reaches) (b.reach.least (on r) a.reach.reaches)

pub reach_of_determined : {atoms : AtomArrays} {clauses : ClauseArrays} → Ready atoms clauses → (seat : ℕ) (r s : List ℕ)
    → ((G : Game) → Laid G atoms clauses → Reached G seat r) → ((G : Game) → Laid G atoms clauses → Reached G seat s) → r ≡ s
reach_of_determined w seat r s a b = reached_unique (a w.game w.laid) (b w.game w.laid)

-- ---- the computed reach

append_blank : (l : List ℕ) (n p : ℕ) → get_or (l ++ blank n) p 0 ≡ get_or l p 0
append_blank [] n p = blank_at n p
append_blank (x ∷ l) n zero = refl
append_blank (x ∷ l) n (suc p) = append_blank l n p

module _ {G : Game} (v : Valid G) {seat : ℕ} {r : List ℕ} (x : Reached G seat r) where
  pub reached_is : length G.atoms ≤ 1024 → r ≡ reach_of G seat ++ blank (1024 - length G.atoms)
  reached_is le = same_flags r (c ++ blank n) (x.long ∙ sym long) x.bits bits (λ p t. rw (append_blank c n p) (x.reach.least (on c) is.reaches p t))
      (λ p t. is.least (on r) x.reach.reaches p (rw (append_blank c n p) at t))
    where
      c : List ℕ
      c = reach_of G seat

      n : ℕ
      n = 1024 - length G.atoms

      is : Reach G seat (on c)
      is = reach_is G v seat

      long : length (c ++ blank n) ≡ 1024
      long = length-append c (blank n) ∙ omega (arith, reach_length G v seat, length-replicate {A = ℕ} n 0)

      bits : (p : ℕ) → get_or (c ++ blank n) p 0 ≤ 1
      bits p = elim (bits_at c p (reach_bits G seat)) [ inl e ↦ omega (arith, append_blank c n p) | inr e ↦ omega (arith, append_blank c n p) ]

  -- a move is hidden exactly if no flag of its does atom is 1
  pub reached_hidden : (s m : ℕ) → hidden G seat s m ≡ not (any_of (is_atom does_kind s m) G.atoms (on r))
  unfolding hidden
  reached_hidden s m = ap not (any_agree (is_atom does_kind s m) (record { kind = 0; first = 0; second = 0 }) G.atoms (on (reach_of G seat)) (on r) (λ p lt t. sym (reach_only G v seat (on r) x.reach p)))
