-- Each rule of a valid table is broken in both of two games with the same clauses, or in neither; 9 to 12 at the same places.
use mathlib.Core.Path.{◌≡◌, subst⁻¹}
use mathlib.Core.List.{List, [], ◌∷◌, Memᴰ}
use Prim.Native.Nat.{ℕ, ◌<◌}
use lib.Dec.{T}
use lib.ListN.{length, get_or}
use Rattle.gdl.specs.Game.{Clause, Game, role_kind, true_kind, does_kind, kind_of}
use Rattle.gdl.specs.Graph.{itself}
use Rattle.rules.specs.Rules.{one_of, RoleBroken, HeadBroken, BodyBroken, Leans, LevelsBroken, RoleMissing}
use Rattle.gdl.proofs.Layouts.{at_mem, mem_at}
use Rattle.reordering.specs.Reordered.{Within, with_clauses}
use Rattle.reordering.proofs.Swapping.{depends_more, turns_more}

-- what holds of the clause at a place of C holds of one at some place of D
elsewhere : {C D : List Clause} → Within C D → (d : Clause) (P : Clause → Type 0) (i : ℕ) → i < length C → P (get_or C i d) → (j : ℕ) × (j < length D) × P (get_or D j d)
elsewhere {C} {D} more d P i lt x = let r = mem_at d D (get_or C i d) (more (get_or C i d) (at_mem d C i lt)) in (r.0, r.1, subst⁻¹ P r.2 x)

module _ {C D : List Clause} (more : Within C D) (G : Game) where
  -- ---- 6 to 8: at some place

  pub role_broken : (i : ℕ) → RoleBroken (with_clauses C G) i → (j : ℕ) × RoleBroken (with_clauses D G) j
  role_broken i b =
      let r = elsewhere more _ (λ c. (kind_of G c.head ≡ role_kind) × (c.body ≡ [] → ⊥)) i b.clause (b.role, b.literals) in
      (r.0, record { clause = r.1; role = r.2.0; literals = r.2.1 })

  pub head_broken : (i : ℕ) → HeadBroken (with_clauses C G) i → (j : ℕ) × HeadBroken (with_clauses D G) j
  head_broken i b =
      let r = elsewhere more _ (λ c. T (one_of (true_kind ∷ does_kind ∷ []) (kind_of G c.head))) i b.clause b.head in
      (r.0, record { clause = r.1; head = r.2 })

  pub body_broken : (i : ℕ) → BodyBroken (with_clauses C G) i → (j : ℕ) × BodyBroken (with_clauses D G) j
  body_broken i b =
      let r = elsewhere more _ (λ c. Memᴰ b.literal c.body) i b.clause b.in_body in
      (r.0, record { clause = r.1; literal = b.literal; in_body = r.2; kind = b.kind })

  -- ---- 9 to 11: at the same place

  pub leans_more : {these those : List ℕ} (p : ℕ) → Leans these those (with_clauses C G) p → Leans these those (with_clauses D G) p
  leans_more p b = record {
    atom = b.atom;
    kind = b.kind;
    on = b.on;
    other = b.other;
    other_kind = b.other_kind;
    depends = depends_more more itself b.depends;
  }

  pub levels_broken : (p : ℕ) → LevelsBroken (with_clauses C G) p → LevelsBroken (with_clauses D G) p
  levels_broken p = turns_more more itself

  -- ---- 12: of the same seats

  pub role_missing : (s : ℕ) → RoleMissing (with_clauses D G) s → RoleMissing (with_clauses C G) s
  role_missing s b = record {
    seat = b.seat;
    none = λ f. b.none (record { clause = f.clause; in_table = more f.clause f.in_table; is_role = f.is_role });
  }
