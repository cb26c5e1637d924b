-- The arrays of a game that was read have the shape that each search asks for, and hold the game for each.
use mathlib.Core.Path.{◌≡◌, refl, sym, ap, ◌∙◌}
use mathlib.Core.List.{List, [], ◌∷◌}
use Prim.Native.Nat.{ℕ, zero, suc, ◌+◌, ◌≤◌, ◌<◌}
use native.Mathlib.Omega.{arith}
use lib.ListN.{length, get_or, length-map, length-append}
use Rattle.gdl.specs.Game.{Clause, Game, clause_at}
use Rattle.gdl.specs.declared.arrays.AtomArrays.{AtomArrays}
use Rattle.gdl.specs.declared.arrays.ClauseArrays.{ClauseArrays}
use Rattle.gdl.specs.Layout.{starts_from, literals_of}
use Rattle.edges.specs.Graph.{Graph}
use Rattle.edges.specs.Closure.{Sized}
use Rattle.edges.specs.Uses.{Ends, Indexed, Index}
use Rattle.edges.proofs.Drawing.{clauses_graph, graph_sized}
use Rattle.judge.specs.Arrays.{HeldClauses, ClausesShaped, RolesShaped, HeldEdges, EdgesShaped, HeldUses, UsesAsked}
use Rattle.judge.specs.Judgement.{Held, HoldsGame, HeldLast, LastAsked}
use Rattle.gdl.proofs.Layouts.{at_mem}
use Rattle.judge.proofs.Holding.{clauses_held, head_held, end_held}

starts_many : (k : ℕ) (cs : List Clause) → length (starts_from k cs) ≡ suc (length cs)
starts_many k [] = refl
starts_many k (c ∷ cs) = ap suc (starts_many (k + length c.body) cs)

start_within : (k : ℕ) (cs : List Clause) (i : ℕ) → get_or (starts_from k cs) i 0 ≤ k + length (literals_of cs)
start_within k [] zero = omega arith
start_within k [] (suc i) = omega arith
start_within k (c ∷ cs) zero = omega arith
start_within k (c ∷ cs) (suc i) = simp (length-append, length-map) (omega (arith, start_within (k + length c.body) cs i))

module _ {a : AtomArrays} {c : ClauseArrays} {owners : List ℕ} {seats : ℕ} {G : Game} (h : Held a c owners seats G) where
  pub held_clauses : HeldClauses a c G
  held_clauses = record { kinds_are = h.kinds_are; heads_are = h.heads_are; starts_are = h.starts_are; literals_are = h.literals_are }

  pub held_edges : HeldEdges a.kinds.now owners c.literals.now G
  held_edges = record { limits = h.limits; kinds_are = h.kinds_are; owners_are = h.owners_are; literals_are = h.literals_are }

  pub held_uses : HeldUses a c owners c.literals.now G
  held_uses = record { clauses = held_clauses; edges = held_edges }

  pub held_last : HeldLast a c owners c.literals.now seats G
  held_last = record {
    edges = held_edges;
    roles = record { limits = h.limits; kinds_are = h.kinds_are; firsts_are = h.firsts_are; heads_are = h.heads_are; seats_are = h.seats_are };
  }

  kinds_long : length a.kinds.now ≡ length G.atoms
  kinds_long = rw h.kinds_are (length-map G.atoms (λ x. x.kind))

  head_in : (i : ℕ) → i < length c.heads.now → get_or c.heads.now i 0 < length a.kinds.now
  head_in i lt =
      let m : length c.heads.now ≡ length G.clauses = clauses_held G a c held_clauses in
      omega (arith, head_held G c.heads.now h.heads_are i, kinds_long, h.limits.heads (clause_at G i) (at_mem _ G.clauses i (omega arith)))

  edges_drawn : Graph owners c.literals.now (length a.kinds.now)
  edges_drawn = rw (h.owners_are, h.literals_are, kinds_long) (clauses_graph G.clauses (length G.atoms) h.limits.heads h.limits.bodies)

  clauses_shape : ClausesShaped a c
  clauses_shape =
      let m : length c.heads.now ≡ length G.clauses = clauses_held G a c held_clauses in
      record {
        long = rw h.starts_are (omega (arith, starts_many 0 G.clauses, m));
        rising = λ i lt. omega (arith, end_held G a c held_clauses i (omega arith));
        ends = λ i lt. rw (h.starts_are, h.literals_are) (omega (arith, start_within 0 G.clauses (i + 1)));
        head_atoms = head_in;
        body_atoms = record { atoms = edges_drawn.ends };
      }

  edges_shape : EdgesShaped a.kinds.now owners c.literals.now
  edges_shape = record { graph = edges_drawn; atoms = omega (arith, kinds_long, h.limits.atoms); few = rw h.literals_are h.limits.literals }

  roles_shape : RolesShaped a c
  roles_shape = record { same = rw h.firsts_are (length-map G.atoms (λ x. x.first) ∙ sym kinds_long); atoms = head_in }

module _ (a : AtomArrays) (c : ClauseArrays) (owners : List ℕ) (seats : ℕ) (s : HoldsGame a c owners seats) where
  pub clauses_shaped : ClausesShaped a c
  clauses_shaped = clauses_shape s.held

  edges : EdgesShaped a.kinds.now owners c.literals.now
  edges = edges_shape s.held

  sized : Sized owners c.literals.now
  sized = graph_sized edges.graph edges.atoms (omega (arith, edges.few))

  -- the index of the uses, before it is made and after
  pub ends_indexed : Ends c.literals.now
  ends_indexed = record { nodes = sized.graph.ends; edges = sized.edges }

  pub edges_indexed : (first next : List ℕ) → Indexed c.literals.now first next → Index owners c.literals.now first next
  edges_indexed first next i = record { sized = sized; chained = i.chained }

  pub uses_asked : UsesAsked a c owners c.literals.now
  uses_asked = record { shaped = clauses_shaped; edges = edges }

  pub last_asked : LastAsked a c owners c.literals.now
  last_asked = record { edges = edges; roles = roles_shape s.held }
