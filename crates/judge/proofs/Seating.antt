-- Laws of the search for a seat without a role fact.
use mathlib.Core.Path.{◌≡◌, refl, ap, subst, ◌∙◌}
use mathlib.Core.Bool.{Bool, true, false, not, ◌&&◌}
use Prim.Native.Nat.{ℕ, ◌<◌}
use native.Mathlib.Omega.{arith}
use lib.Dec.{eqb, eqb→eq}
use lib.ListN.{length}
use Rattle.gdl.specs.Game.{Atom, Game, role_kind, is_atom, atom_at, kind_of}
use Rattle.gdl.specs.declared.arrays.AtomArrays.{AtomArrays}
use Rattle.gdl.specs.declared.arrays.ClauseArrays.{ClauseArrays}
use Rattle.gdl.proofs.Tests.{and_agree}
use Rattle.rules.specs.Rules.{some, RoleMissing}
use Rattle.rules.specs.Judged.{role_given}
use Rattle.rules.specs.Limits.{second_end, Limits}
use Rattle.judge.specs.Arrays.{HeldRoles, role_of}
use Rattle.rules.proofs.Finding.{some_agree}
use Rattle.rules.proofs.Judging.{Exact, seat_exact}
use Rattle.judge.proofs.Holding.{kind_held, first_held}
use Rattle.judge.proofs.Searching.{exact_as}

-- the role atom by its kind and first field: its second field is 0
role_same : (G : Game) → Limits G → (s p : ℕ) → p < length G.atoms → (eqb (kind_of G p) role_kind && eqb (atom_at G p).first s) ≡ is_atom role_kind s 0 (atom_at G p)
role_same G l s p lt = go (atom_at G p) λ e. let h : (atom_at G p).second < 1 = subst (λ (k : ℕ). (atom_at G p).second < second_end G k) e (l.seconds p lt) in omega arith
  where
    whole : (b : Bool) → b ≡ (b && true)
    whole true = refl
    whole false = refl

    go : (a : Atom) → (a.kind ≡ role_kind → a.second ≡ 0) → (eqb a.kind role_kind && eqb a.first s) ≡ is_atom role_kind s 0 a
    go a z = and_agree (eqb a.kind role_kind) (eqb a.first s) (eqb a.first s && eqb a.second 0) (λ t. rw (z (eqb→eq a.kind role_kind t)) (whole (eqb a.first s)))

-- the test of a seat strikes exactly where the rule is broken
pub seat_told : (a : AtomArrays) (c : ClauseArrays) (seats : ℕ) (G : Game) → HeldRoles a c seats G → Exact (RoleMissing G) seats (λ s. not (some (role_of a s) c.heads.now))
seat_told a c seats G h = exact_as (seat_exact G) h.seats_are (λ s lt. ap not (given_same s))
  where
    at : (s p : ℕ) → role_of a s p ≡ (eqb (kind_of G p) role_kind && eqb (atom_at G p).first s)
    at s p = rw (kind_held G a.kinds.now h.kinds_are p, first_held G a.firsts.now h.firsts_are p)

    given_same : (s : ℕ) → some (role_of a s) c.heads.now ≡ role_given G s
    given_same s = rw h.heads_are (some_agree (role_of a s) (λ k. k.head) _ G.clauses λ k m. at s k.head ∙ role_same G h.limits s k.head (h.limits.heads k m))
