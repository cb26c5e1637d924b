-- The number of words decides which is meant. Tried: with `using` at the function alone these goals stay open.
use borrow.Author.Rules.{rules}
use Rattle.interpreter.proofs.Turning.{turnings}
use Rattle.interpreter.proofs.records.record.Goals as goal

pub returns-then-count_words-eq1 : goal.returns-then-count_words-eq1
returns-then-count_words-eq1 c = search (rules, turnings)

pub returns : goal.returns
returns c = search (rules, turnings)
