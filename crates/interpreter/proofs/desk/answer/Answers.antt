-- A fault is told.
use Rattle.interpreter.proofs.Answering.{fault_told}
use Rattle.interpreter.proofs.desk.answer.Goals as goal

pub returns-in-Err : goal.returns-in-Err
returns-in-Err g c = fault_told _ _ _ _ _ _ _ c.in-Err.ensures _ _ c.said.ensures c.put_fault.ensures
