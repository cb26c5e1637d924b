-- Each turn reads at least one byte more, within the room.
use Rattle.std.proofs.Common.{length, ◌-◌, ◌≤◌}
use Rattle.feed.proofs.file.read_whole.Given as goal

abbrev pub invariant-loop-have : goal.invariant-loop-have
invariant-loop-have g l = l.have ≤ length l.room

abbrev pub decreases-loop-have : goal.decreases-loop-have
decreases-loop-have g l = length l.room - l.have
