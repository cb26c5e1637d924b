-- A long line is told.
use borrow.Author.Rules.{rules}
use Rattle.interpreter.proofs.Answering.{linings}
use Rattle.interpreter.proofs.desk.answer_found.Goals as goal

pub returns-in-Long : goal.returns-in-Long
returns-in-Long g c = search (rules, linings)
