-- Message: a refused table leaves the room, an accepted one is consulted without choices.
use Rattle.calls.specs.Calls.{message}
use Rattle.referee.proofs.Answering.{asked, answered, message_refused}
use Rattle.referee.proofs.message.Goals as goal

pub message_fit-requires : goal.message_fit-requires
message_fit-requires c = asked c.args.table.now _ _ c.in-Ok.ensures

pub returns-in-Err : goal.returns-in-Err
returns-in-Err c = let a = c.args in message_refused a.table.now _ c.in-Err.ensures a.session a.seat.0 a.room.now

pub returns-in-Ok : goal.returns-in-Ok
returns-in-Ok c = let a = c.args in answered a.table.now _ c.in-Ok.ensures (λ v. message v a.session a.seat.0 a.room.now) _ c.message_fit.ensures
