-- The refusal of the table that was examined.
use Rattle.referee.proofs.Answering.{check_kept}
use Rattle.referee.proofs.check.Goals as goal

pub returns-in-Err : goal.returns-in-Err
returns-in-Err c = check_kept c.args.table.now _ c.in-Err.ensures

pub returns-in-Ok : goal.returns-in-Ok
returns-in-Ok c = check_kept c.args.table.now _ c.in-Ok.ensures
