-- The index of edges starts empty.
use mathlib.Core.List.{List}
use Prim.Native.Nat.{ℕ}
use lib.ListN.{length}
use Rattle.edges.specs.Uses.{Unindexed, EdgesFrom, no_uses, no_nexts}
use Rattle.edges.proofs.Chains.{chain_starts}

pub index_starts : (to first next : List ℕ) → Unindexed to first next → EdgesFrom to first next (length to)
unfolding no_uses no_nexts
index_starts to first next u = chain_starts 1024 8192 first next u.ends.edges u.no_firsts u.empty_nexts
