-- The record and the refusal are those of the call.
use borrow.Author.Rules.{rules}
use Rattle.interpreter.proofs.Turning.{turnings}
use Rattle.interpreter.proofs.records.moved.Goals as goal

pub returns : goal.returns
returns c = search (rules, turnings)
