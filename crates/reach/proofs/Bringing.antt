-- The turn of an atom: what the bodies of its clauses bring in, and what it brings in if it is true(f).
use mathlib.Core.Path.{◌≡◌, sym, ap, subst, ◌∙◌}
use mathlib.Core.List.{List}
use Prim.Native.Nat.{ℕ, suc, ◌+◌, ◌-◌, ◌/◌, ◌<◌, ◌≤◌}
use native.Mathlib.Omega.{arith}
use native.Mathlib.Decide.{ℕ_discrete}
use lib.ListN.{length, get_or, take, drop, length-take}
use lib.Seq.{get_or-take, get_or-drop}
use Rattle.gdl.specs.declared.arrays.AtomArrays.{AtomArrays}
use Rattle.gdl.specs.declared.arrays.ClauseArrays.{ClauseArrays}
use Rattle.edges.specs.Uses.{FirstUse}
use Rattle.edges.specs.Marks.{Marked, Joined, Brought}
use Rattle.edges.specs.declared.worklist.Worklist.{Worklist}
use Rattle.edges.proofs.Chains.{Walked, walk_more}
use Rattle.edges.proofs.Marking.{One, one, joined_more}
use Rattle.reach.specs.Bodies.{InBody, InBodies, HeadAt}
use Rattle.reach.specs.Onward.{Onward, Follows}
use Rattle.reach.specs.declared.steps.Steps.{Steps}

-- ---- the body of a clause

-- place i of the part of a list from a up to b
module _ (l : List ℕ) (a b i : ℕ) (lt : i < length (take (b - a) (drop a l))) where
  pub part_within : a + i < b
  part_within = omega (arith, length-take (b - a) (drop a l))

  pub part_at : get_or (take (b - a) (drop a l)) i 0 ≡ get_or l (a + i) 0
  part_at = get_or-take (b - a) (drop a l) i 0 (omega (arith, part_within)) ∙ get_or-drop a l i 0

-- its atoms before place j are marked
pub record BodyBrought (c : ClauseArrays) (k : ℕ) (w₀ w : Worklist) (j : ℕ) : Type 0 where
  pub joined : Joined (InBody c k) w₀ w
  pub from : get_or c.starts.now k 0 ≤ j
  pub met : (i : ℕ) → get_or c.starts.now k 0 ≤ i → i < j → get_or w.marks (get_or c.literals.now i 0 / 2) 0 ≡ 1

module _ (s : Steps) (k : ℕ) (here : k < length s.clauses.heads.now) where
  module _ (w₀ : Worklist) where
    module _ (w : Worklist) (j end : ℕ) (i : BodyBrought s.clauses k w₀ w j) (ee : end ≡ get_or s.clauses.starts.now (k + 1) 0) where
      module _ (lt : j < end) where
        pub literal_in : j < length s.clauses.literals.now
        literal_in = omega (arith, s.indexed.readable.clauses.ends k here)

        module _ (h : ℕ) (eh : h ≡ get_or s.clauses.literals.now j 0 / 2) where
          pub literal_node : h < 1024
          literal_node = omega (arith, s.indexed.readable.clauses.atoms j literal_in)

          pub body_more : (w' : Worklist) → Marked h w w' → BodyBrought s.clauses k w₀ w' (j + 1)
          body_more w' m =
              let o : One (InBody s.clauses k) h w w' = one literal_node (record { place = j; from = i.from; to = omega arith; is_atom = sym eh }) m in
              record {
                joined = joined_more i.joined o.joined;
                from = omega (arith, i.from);
                met = λ x ge l. elim (ℕ_discrete x j) [
                  | yes e ↦ subst (λ (y : ℕ). get_or w'.marks y 0 ≡ 1) (eh ∙ ap (λ (y : ℕ). get_or s.clauses.literals.now y 0 / 2) (sym e)) o.here
                  | no ne ↦ o.joined.keeps (get_or s.clauses.literals.now x 0 / 2) (i.met x ge (omega arith))
                ];
              }

-- ---- the clauses of a head

-- those before clause k are done
pub record BodiesBrought (c : ClauseArrays) (p : ℕ) (w₀ w : Worklist) (k : ℕ) : Type 0 where
  pub joined : Joined (InBodies c p) w₀ w
  pub walked : Walked (HeadAt c.heads.now) (length c.heads.now) (λ d. (h : ℕ) → InBody c d h → get_or w.marks h 0 ≡ 1) p k

module _ (s : Steps) (p : ℕ) (lp : p < 1024) (w₀ : Worklist) where
  module _ (w : Worklist) (k : ℕ) (i : BodiesBrought s.clauses p w₀ w k) where
    pub bodies_done : length s.clauses.heads.now ≤ k → Brought (InBodies s.clauses p) w₀ w
    bodies_done le = record { joined = i.joined; all = λ h b. i.walked.met b.clause (omega (arith, b.within)) b.within b.is_head h b.in_body }

-- ---- the next and init atoms of a fluent

-- those before atom h are marked
pub record OnwardBrought (a : AtomArrays) (p : ℕ) (w₀ w : Worklist) (f h : ℕ) : Type 0 where
  pub joined : Joined (Follows a p) w₀ w
  pub walked : Walked (Onward a) (length a.kinds.now) (λ j. get_or w.marks j 0 ≡ 1) f h

module _ (s : Steps) (p : ℕ) (lp : p < length s.atoms.kinds.now) (w₀ : Worklist) where
  module _ (t : get_or s.atoms.kinds.now p 0 ≡ 3) (f : ℕ) (ef : f ≡ get_or s.atoms.firsts.now p 0) where
    pub fluent_in : f < 512
    fluent_in = omega (arith, s.indexed.readable.lows.low p lp t)

    module _ (w : Worklist) (h : ℕ) (i : OnwardBrought s.atoms p w₀ w f h) where
      module _ (lt : h < length s.atoms.kinds.now) where
        pub later_in : h < 1024
        later_in = omega (arith, s.indexed.readable.lows.columns.few)

        module _ (h' : ℕ) (eh : h' ≡ get_or s.fluents.now.next h 0) where
          beyond : FirstUse (Onward s.atoms) (length s.atoms.kinds.now) 1024 f (suc h) h'
          beyond = subst (FirstUse (Onward s.atoms) (length s.atoms.kinds.now) 1024 f (suc h)) (sym eh) (s.indexed.atoms.chained.nexts f h fluent_in (omega arith) lt (i.walked.here lt))

          pub onward_more : (w' : Worklist) → Marked h w w' → OnwardBrought s.atoms p w₀ w' f h'
          onward_more w' m =
              let o : One (Follows s.atoms p) h w w' = one later_in (record { is_true = t; within = lt; onward = subst (λ (x : ℕ). Onward s.atoms x h) ef (i.walked.here lt) }) m in
              record { joined = joined_more i.joined o.joined; walked = walk_more i.walked beyond o.joined.keeps o.here }
