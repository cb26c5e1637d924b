-- The feed stays within the lines' room.
use Rattle.feed.specs.Feed.{Held}
use Rattle.referee_cli.proofs.serve.Given as goal

abbrev pub invariant-loop : goal.invariant-loop
invariant-loop g l = Held 140007 l.feed
