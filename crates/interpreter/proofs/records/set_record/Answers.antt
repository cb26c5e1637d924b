-- Each arm is one case of the reading. Tried: with `using` at the function alone these goals stay open.
use borrow.Author.Rules.{rules}
use Rattle.interpreter.proofs.Turning.{turnings}
use Rattle.interpreter.proofs.records.set_record.Goals as goal

pub returns-in-Ok-eq2580 : goal.returns-in-Ok-eq2580
returns-in-Ok-eq2580 c = search (rules, turnings)

pub returns-in-Ok : goal.returns-in-Ok
returns-in-Ok c = search (rules, turnings)

pub returns-in-Err : goal.returns-in-Err
returns-in-Err c = search (rules, turnings)
