-- What is moved lies at the front.
use Rattle.std.proofs.Common.{◌∙◌}
use Rattle.feed.proofs.Feeding.{fronted}
use Rattle.feed.proofs.to_front.Goals as goal

pub returns-clause-room_after : goal.returns-clause-room_after
returns-clause-room_after c = c.copy_within.ensures.after ∙ fronted c.args.room.now c.args.start c.args.have c.requires
