-- The turn of a node of the graph: a walk along the edges that end there.
use mathlib.Core.Path.{◌≡◌, sym, subst}
use Prim.Native.Nat.{ℕ, suc, ◌<◌, ◌≤◌}
use native.Mathlib.Omega.{arith}
use lib.ListN.{length, get_or}
use Rattle.edges.specs.Graph.{start_of}
use Rattle.edges.specs.Closure.{Back}
use Rattle.edges.specs.Uses.{EndsAt, FirstEnd}
use Rattle.edges.specs.Marks.{Marked, Joined, Turn, Visited}
use Rattle.edges.specs.declared.Edges.{Edges}
use Rattle.edges.specs.declared.worklist.Worklist.{Worklist}
use Rattle.edges.proofs.Chains.{Walked, walk_more}
use Rattle.edges.proofs.Marking.{One, one, joined_more}
use Rattle.edges.proofs.Closing.{turn_node, turn_done}

-- the edges to p below k are followed
pub record Visiting (e : Edges) (w₀ w : Worklist) (p k : ℕ) : Type 0 where
  pub joined : Joined (Back e.from.now e.to.now p) w₀ w
  pub walked : Walked (EndsAt e.to.now) (length e.to.now) (λ j. get_or w.marks (start_of e.from.now j) 0 ≡ 1) p k

module _ (e : Edges) (w₀ : Worklist) (at : ℕ) (v : Turn (Back e.from.now e.to.now) w₀ at) (p : ℕ) (ep : p ≡ get_or w₀.queue at 0) where
  node : p < 1024
  node = turn_node (Back e.from.now e.to.now) w₀ at v p ep

  module _ (w : Worklist) (k : ℕ) (i : Visiting e w₀ w p k) where
    module _ (lt : k < length e.to.now) where
      module _ (h : ℕ) (eh : h ≡ get_or e.from.now k 0) where
        pub start_node : h < 1024
        start_node = omega (arith, e.indexed.sized.graph.starts k lt)

        module _ (w' : Worklist) (s : Marked h w w') (k' : ℕ) (ek : k' ≡ get_or e.uses.now.next k 0) where
          later : FirstEnd e.to.now p (suc k) k'
          later = subst (FirstEnd e.to.now p (suc k)) (sym ek) (e.indexed.chained.nexts p k node (omega arith) lt (i.walked.here lt))

          pub visiting_more : Visiting e w₀ w' p k'
          visiting_more =
              let o : One (Back e.from.now e.to.now p) h w w' = one start_node (record { edge = k; within = lt; end = i.walked.here lt; start = sym eh }) s in
              record {
                joined = joined_more i.joined o.joined;
                walked = walk_more i.walked later (λ j x. o.joined.keeps (start_of e.from.now j) x) (subst (λ (y : ℕ). get_or w'.marks y 0 ≡ 1) eh o.here);
              }

    pub visiting_done : length e.to.now ≤ k → Visited (Back e.from.now e.to.now) w₀ at w
    visiting_done le = turn_done (Back e.from.now e.to.now) w₀ at v p ep w (record {
      joined = i.joined;
      all = λ h b. subst (λ (y : ℕ). get_or w.marks y 0 ≡ 1) b.start (i.walked.met b.edge (omega (arith, b.within)) b.within b.end);
    })
