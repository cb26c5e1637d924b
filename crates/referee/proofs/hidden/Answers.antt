-- Hidden: a refused table hides nothing, an accepted one is traced for the asking seat.
use Rattle.calls.specs.Calls.{hidden_from}
use Rattle.referee.proofs.Answering.{traced, answered, hidden_refused, hidden_kept}
use Rattle.referee.proofs.hidden.Goals as goal

pub hidden_fit-requires : goal.hidden_fit-requires
hidden_fit-requires c = traced c.args.table.now c.args.asking.0 c.in-Ok.ensures

pub returns-in-Err : goal.returns-in-Err
returns-in-Err c =
    let a = c.args in
    hidden_kept a.table.now a.asking.0 a.moving.0 a.choice.0 _ (hidden_refused a.table.now _ c.in-Err.ensures a.asking.0 a.moving.0 a.choice.0)

pub returns-in-Ok : goal.returns-in-Ok
returns-in-Ok c =
    let a = c.args in
    hidden_kept a.table.now a.asking.0 a.moving.0 a.choice.0 _
    (answered a.table.now _ c.in-Ok.ensures (λ v. hidden_from v a.asking.0 a.moving.0 a.choice.0) c.hidden_fit.result c.hidden_fit.ensures)
