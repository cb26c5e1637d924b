-- The atoms, and then the rest.
use Rattle.std.proofs.lemmas.Result.{err_from_is_err_and}
use Rattle.table.proofs.Whole.{empty_atoms, all_game}
use Rattle.table.proofs.tables.read_game.Goals as goal

pub returns-in_err-read_atoms : goal.returns-in_err-read_atoms
returns-in_err-read_atoms c =
    let p = err_from_is_err_and c.from_residual.result c.from_residual.ensures.1 in
    rw (p.1, p.2) (empty_atoms _ _ _ c.args.reader.now c.read_atoms.new.reader _ c.in_err-read_atoms.ensures.says)

pub returns : goal.returns
returns c = all_game _ _ _ c.args.reader.now c.read_atoms.new.reader _ c.read_atoms.ensures.same c.in_ok-read_atoms.ensures.says c.read_rest.ensures
