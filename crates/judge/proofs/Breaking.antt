-- Laws of the tests of one clause: each strikes exactly where its rule is broken.
use mathlib.Core.Path.{◌≡◌, sym, ap, ap₂, ◌∙◌}
use mathlib.Core.Bool.{◌&&◌}
use mathlib.Core.List.{[], ◌∷◌}
use Prim.Native.Nat.{ℕ, zero, suc, ◌+◌, ◌<◌}
use native.Mathlib.Omega.{arith}
use lib.Dec.{eqb, ltb}
use borrow.Author.Tests.{lt-ltb, le-ltb}
use lib.ListN.{length, get_or}
use Rattle.gdl.specs.Game.{Game, role_kind, init_kind, true_kind, does_kind, next_kind, sees_kind, clause_at, kind_of}
use Rattle.gdl.specs.declared.arrays.AtomArrays.{AtomArrays}
use Rattle.gdl.specs.declared.arrays.ClauseArrays.{ClauseArrays}
use Rattle.rules.specs.Rules.{one_of, RoleBroken, HeadBroken, BodyBroken}
use Rattle.judge.specs.Arrays.{HeldClauses, head_kind, role_with_body, never_head, never_in_body}
use Rattle.rules.proofs.Judging.{Exact, role_exact, head_exact, body_exact}
use Rattle.judge.proofs.Searching.{exact_as}
use Rattle.judge.proofs.Holding.{clauses_held, kind_held, head_held, end_held, body_held, some_held}

module _ (a : AtomArrays) (c : ClauseArrays) (G : Game) (h : HeldClauses a c G) where
  many : length c.heads.now ≡ length G.clauses
  many = clauses_held G a c h

  head_kind_is : (i : ℕ) → head_kind a c i ≡ kind_of G (clause_at G i).head
  head_kind_is i = kind_held G a.kinds.now h.kinds_are (get_or c.heads.now i 0) ∙ ap (kind_of G) (head_held G c.heads.now h.heads_are i)

  longer : (i : ℕ) → i < length G.clauses → ltb (get_or c.starts.now i 0) (get_or c.starts.now (i + 1) 0) ≡ ltb 0 (length (clause_at G i).body)
  longer i lt = rw (end_held G a c h i lt) (shift (get_or c.starts.now i 0) (length (clause_at G i).body))
    where
      shift : (s n : ℕ) → ltb s (s + n) ≡ ltb 0 n
      shift s zero = le-ltb s (s + 0) (omega arith)
      shift s (suc n) = lt-ltb s (s + suc n) (omega arith) ∙ sym (lt-ltb 0 (suc n) (omega arith))

  pub role_told : Exact (RoleBroken G) (length c.heads.now) (role_with_body a c)
  role_told = exact_as (role_exact G) many (λ i lt. ap₂ (λ x y. eqb x role_kind && y) (head_kind_is i) (longer i lt))

  pub head_told : Exact (HeadBroken G) (length c.heads.now) (never_head a c)
  head_told = exact_as (head_exact G) many (λ i lt. ap (one_of (true_kind ∷ does_kind ∷ [])) (head_kind_is i))

  pub body_told : Exact (BodyBroken G) (length c.heads.now) (never_in_body a c)
  body_told = exact_as (body_exact G) many (λ i lt. rw (body_held G a c h i lt) (some_held G a c h (init_kind ∷ next_kind ∷ sees_kind ∷ []) (clause_at G i).body))
