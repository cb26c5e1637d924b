-- Open: a refused table gives a blank record, an accepted one is consulted on no position and no choices.
use mathlib.Core.Path.{refl}
use mathlib.Core.List.{[]}
use Rattle.calls.specs.Calls.{open_game}
use Rattle.referee.proofs.Answering.{unset, asked, answered, open_refused}
use Rattle.referee.proofs.open_game.Goals as goal

pub open_fit-requires : goal.open_fit-requires
open_fit-requires c = asked c.args.table.now [] [] (unset _ _ c.in-Ok.ensures refl refl)

pub returns-in-Err : goal.returns-in-Err
returns-in-Err c = open_refused c.args.table.now _ c.in-Err.ensures c.blank_session.result c.blank_session.ensures

pub returns-in-Ok : goal.returns-in-Ok
returns-in-Ok c = answered c.args.table.now _ (unset _ _ c.in-Ok.ensures refl refl) open_game c.open_fit.result c.open_fit.ensures
