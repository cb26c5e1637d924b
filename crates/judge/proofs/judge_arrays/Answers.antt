-- The arrays of a game have the shape that each part asks for; a refusal stands whatever follows, and else what follows decides.
use mathlib.Core.Path.{refl}
use borrow.Author.Rules.{rules}
use Rattle.edges.specs.Uses.{no_uses, no_nexts}
use Rattle.judge.proofs.Shaping.{clauses_shaped, ends_indexed, edges_indexed, uses_asked, last_asked}
use Rattle.std.proofs.lemmas.Result.{err_from_is_err_and}
use Rattle.judge.proofs.Ordering.{all_uses, all_last}
use Rattle.judge.proofs.judge_arrays.Goals as goal

pub judge_heads-requires : goal.judge_heads-requires
judge_heads-requires c = clauses_shaped _ _ _ _ c.requires

pub index_uses-requires : goal.index_uses-requires
unfolding no_uses no_nexts
index_uses-requires c = record { ends = ends_indexed _ _ _ _ c.requires; no_firsts = search rules; empty_nexts = search rules }

pub invariant_of-edges : goal.invariant_of-edges
invariant_of-edges c = record { indexed = edges_indexed _ _ _ _ c.requires _ _ c.index_uses.ensures }

pub judge_uses-requires : goal.judge_uses-requires
judge_uses-requires c = uses_asked _ _ _ _ c.requires

pub judge_last-requires : goal.judge_last-requires
judge_last-requires c = (last_asked _ _ _ _ c.requires, refl)

pub returns-in_err-judge_uses : goal.returns-in_err-judge_uses
returns-in_err-judge_uses c =
    let p = err_from_is_err_and c.from_residual-in_err-judge_uses.result c.from_residual-in_err-judge_uses.ensures.1 in
    rw (p.1, p.2) (all_uses _ _ _ _ c.in_ok-judge_heads.ensures _ c.in_err-judge_uses.ensures _ refl)

pub returns : goal.returns
returns c = all_last _ _ _ _ c.in_ok-judge_heads.ensures c.in_ok-judge_uses.ensures _ _ c.judge_last.ensures
