-- Offer: a refused table leaves the record, an accepted one is consulted without choices.
use Rattle.calls.specs.Calls.{offer}
use Rattle.referee.proofs.Answering.{asked, answered, offer_refused}
use Rattle.referee.proofs.offer.Goals as goal

pub offer_fit-requires : goal.offer_fit-requires
offer_fit-requires c = asked c.args.table.now _ _ c.in-Ok.ensures

pub returns-in-Err : goal.returns-in-Err
returns-in-Err c = let a = c.args in offer_refused a.table.now _ c.in-Err.ensures a.session a.seat.0 a.choice.0

pub returns-in-Ok : goal.returns-in-Ok
returns-in-Ok c =
    let a = c.args in
    answered a.table.now _ c.in-Ok.ensures (λ v. offer v a.session a.seat.0 a.choice.0) c.offer_fit.result c.offer_fit.ensures
