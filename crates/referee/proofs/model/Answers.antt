-- Model: a refused table leaves the room, an accepted one is consulted on the position and the choices.
use Rattle.referee.proofs.Answering.{asked, model_refused, model_kept, model_answered}
use Rattle.referee.proofs.model.Goals as goal

pub model_fit-requires : goal.model_fit-requires
model_fit-requires c = asked c.args.table.now _ _ c.in-Ok.ensures

pub returns-in-Err : goal.returns-in-Err
returns-in-Err c = let a = c.args in model_kept a.table.now _ _ a.room.now _ (model_refused a.table.now _ c.in-Err.ensures _ _ a.room.now)

pub returns-in-Ok : goal.returns-in-Ok
returns-in-Ok c = let a = c.args in model_answered a.table.now _ _ a.room.now c.in-Ok.ensures _ c.model_fit.ensures
