-- The refusal is one that the promise allows.
use borrow.Author.Rules.{rules}
use Rattle.interpreter.proofs.Looking.{lookings}
use Rattle.interpreter.proofs.looks.check.Goals as goal

pub returns : goal.returns
returns c = search (rules, lookings)
