-- Each feed stays within its room.
use Rattle.feed.specs.Feed.{Held}
use Rattle.vectors.proofs.run.run_lines.Given as goal

abbrev pub invariant-loop : goal.invariant-loop
invariant-loop g l = Held 140007 l.pair.line × Held 8192 l.pair.answer
