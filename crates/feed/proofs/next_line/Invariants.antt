-- The feed stays within the room.
use Rattle.std.proofs.Common.{length}
use Rattle.feed.specs.Feed.{Held}
use Rattle.feed.proofs.next_line.Given as goal

abbrev pub invariant-loop : goal.invariant-loop
invariant-loop g l = Held (length l.room) l.next
