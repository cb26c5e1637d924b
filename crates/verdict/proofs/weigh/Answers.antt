-- A fault of reading is the verdict, and so is a broken rule; else the arrays hold the accepted game with its levels.
use mathlib.Core.Path.{refl}
use Rattle.std.proofs.lemmas.Result.{err_from_is_err_and}
use Rattle.verdict.proofs.Laying.{ends}
use Rattle.verdict.proofs.Consulting.{unread, was_read, judgeable, broken, kept}
use Rattle.verdict.proofs.weigh.Goals as goal

pub returns-in_err-read : goal.returns-in_err-read
returns-in_err-read c =
    let p = err_from_is_err_and c.from_residual.result c.from_residual.ensures.1 in
    rw (p.1, p.2) (unread c.args.s.now _ _ _ c.in_err-read.ensures)

pub used_atoms-atoms-requires : goal.used_atoms-atoms-requires
used_atoms-atoms-requires c = (ends (was_read c.args.s.now _ _ c.requires _ c.in_ok-read.ensures).laid).atoms_end

pub used_clauses-clauses-requires : goal.used_clauses-clauses-requires
used_clauses-clauses-requires c = (ends (was_read c.args.s.now _ _ c.requires _ c.in_ok-read.ensures).laid).clauses_end

pub judge_arrays-requires : goal.judge_arrays-requires
judge_arrays-requires c =
    let got = was_read c.args.s.now _ _ c.requires _ c.in_ok-read.ensures in
    judgeable got c.used_atoms-atoms.ensures c.used_clauses-clauses.ensures refl c.from-seats.ensures

pub returns-in_err-top : goal.returns-in_err-top
returns-in_err-top c =
    let got = was_read c.args.s.now _ _ c.requires _ c.in_ok-read.ensures in
    let p = err_from_is_err_and c.from_residual-in_err-top.result c.from_residual-in_err-top.ensures.1 in
    rw (p.1, p.2) (broken got c.used_atoms-atoms.ensures c.used_clauses-clauses.ensures refl c.from-seats.ensures c.judge_arrays.ensures _ c.in_err-top.was)

pub returns : goal.returns
returns c =
    let got = was_read c.args.s.now _ _ c.requires _ c.in_ok-read.ensures in
    kept got c.used_atoms-atoms.ensures c.used_clauses-clauses.ensures refl c.from-seats.ensures c.judge_arrays.ensures _ c.in_ok-top.was
