-- Each arm is one row of the protocol. Tried: with `using` at the function alone these goals stay open.
use borrow.Author.Rules.{rules}
use Rattle.interpreter.proofs.Answering.{answerings, answers_message, answers_hidden, answers_model, answers_offer, answers_record}
use Rattle.interpreter.proofs.desk.answer_command.Goals as goal

pub returns-in-Check : goal.returns-in-Check
returns-in-Check g c = search (rules, answerings)

pub returns-in-Claim : goal.returns-in-Claim
returns-in-Claim g c = search (rules, answerings)

pub returns-in-Open : goal.returns-in-Open
returns-in-Open g c = search (rules, answerings)

pub returns-in_ok-offer-in-Offer : goal.returns-in_ok-offer-in-Offer
returns-in_ok-offer-in-Offer g c =
    answers_offer _ _ _ _ _ _ _ _ c.first_bytes-in-Offer.ensures _ c.turned-in-Offer.ensures c.in-Offer.is c.in_ok-offer-in-Offer.ensures

pub returns-in-Play : goal.returns-in-Play
returns-in-Play g c = search (rules, answerings)

pub returns-in_ok-message-in-Message : goal.returns-in_ok-message-in-Message
returns-in_ok-message-in-Message g c =
    answers_message _ _ _ _ _ _ _ _ c.first_bytes-in-Message.ensures c.in-Message.is _ c.said-in-Message.ensures c.in_ok-message-in-Message.ensures

pub returns-in_ok-hidden-in-Hidden : goal.returns-in_ok-hidden-in-Hidden
returns-in_ok-hidden-in-Hidden g c =
    answers_hidden _ _ _ _ _ _ _ _ c.first_bytes-in-Hidden.ensures c.in-Hidden.is _ c.said-in-Hidden.ensures c.in_ok-hidden-in-Hidden.ensures

pub returns-in_ok-model-in-Model : goal.returns-in_ok-model-in-Model
returns-in_ok-model-in-Model g c =
    answers_model _ _ _ _ _ _ _ _ c.first_bytes-in-Model.ensures c.in-Model.is _ c.said-in-Model.ensures c.in_ok-model-in-Model.ensures

pub returns-in_ok-record-in-Record : goal.returns-in_ok-record-in-Record
returns-in_ok-record-in-Record g c =
    answers_record _ _ _ _ _ _ _ c.in-Record.is _ c.turned-in-Record.ensures c.in_ok-record-in-Record.ensures

pub returns-in-Help : goal.returns-in-Help
returns-in-Help g c = search (rules, answerings)
