-- The length is told.
use borrow.Author.Rules.{rules}
use Rattle.interpreter.proofs.Answering.{took}
use Rattle.interpreter.proofs.desk.taken.Goals as goal

pub returns : goal.returns
returns c = search (rules, took)
