-- The message of the record that the bytes are is told.
use Rattle.host.proofs.Hosting.{messaged}
use borrow.Author.Rules.{rules}
use Rattle.host.proofs.embalume_message.Goals as goal

pub returns : goal.returns
returns c = messaged _ _ _ _ (search rules) _ _ _ c.message-sent.ensures _ (search rules)
