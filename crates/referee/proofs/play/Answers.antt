-- Play: a refused table leaves the record, an accepted one is consulted with its joint choice.
use Rattle.calls.specs.Calls.{play}
use Rattle.referee.proofs.Answering.{asked, answered, play_refused}
use Rattle.referee.proofs.play.Goals as goal

pub play_fit-requires : goal.play_fit-requires
play_fit-requires c = asked c.args.table.now _ _ c.in-Ok.ensures

pub returns-in-Err : goal.returns-in-Err
returns-in-Err c = play_refused c.args.table.now _ c.in-Err.ensures c.args.session

pub returns-in-Ok : goal.returns-in-Ok
returns-in-Ok c = let a = c.args in answered a.table.now _ c.in-Ok.ensures (λ v. play v a.session) c.play_fit.result c.play_fit.ensures
