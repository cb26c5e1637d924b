-- The claim of the table that was examined.
use Rattle.referee.proofs.Answering.{claim_kept}
use Rattle.referee.proofs.claim.Goals as goal

pub returns-in-Err : goal.returns-in-Err
returns-in-Err c = claim_kept _ _ c.in-Err.ensures

pub returns-in-Ok : goal.returns-in-Ok
returns-in-Ok c = claim_kept _ _ c.in-Ok.ensures
