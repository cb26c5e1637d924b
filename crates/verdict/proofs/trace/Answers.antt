-- An accepted table's arrays hold its game, so they can be asked for the reach.
use Rattle.verdict.proofs.Laying.{ends, trace_ready}
use Rattle.verdict.proofs.Consulting.{fit_traced}
use Rattle.verdict.proofs.trace.Goals as goal

pub used_clauses-clauses-requires : goal.used_clauses-clauses-requires
used_clauses-clauses-requires c = let fits = c.in_ok-weighed.ensures in (ends fits.laid).clauses_end

pub reach_of-learnt-requires : goal.reach_of-learnt-requires
reach_of-learnt-requires c = let fits = c.in_ok-weighed.ensures in trace_ready fits.laid c.used_atoms-atoms.ensures c.used_clauses-clauses.ensures

pub returns : goal.returns
returns c = fit_traced c.args.s.now c.in_ok-weighed.ensures c.used_atoms-atoms.ensures c.used_clauses-clauses.ensures _ _ c.reach_of-learnt.ensures
