-- An accepted table's arrays hold its game, so they can be asked for the model.
use Rattle.verdict.proofs.Laying.{ends, model_ready}
use Rattle.verdict.proofs.Consulting.{fit_consulted}
use Rattle.verdict.proofs.consult.Goals as goal

pub used_clauses-clauses-requires : goal.used_clauses-clauses-requires
used_clauses-clauses-requires c = let fits = c.in_ok-weighed.ensures in (ends fits.laid).clauses_end

pub model_of-learnt-requires : goal.model_of-learnt-requires
model_of-learnt-requires c = let fits = c.in_ok-weighed.ensures in model_ready fits.laid c.used_atoms-atoms.ensures c.used_clauses-clauses.ensures fits.levelled

pub returns : goal.returns
returns c = fit_consulted c.args.s.now c.in_ok-weighed.ensures c.used_atoms-atoms.ensures c.used_clauses-clauses.ensures _ _ _ c.model_of-learnt.ensures
