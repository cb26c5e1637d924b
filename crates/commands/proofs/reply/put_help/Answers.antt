-- One text.
use borrow.Author.Rules.{rules}
use Rattle.commands.proofs.Putting.{put_one}
use Rattle.commands.proofs.reply.put_help.Goals as goal

pub returns : goal.returns
returns c = search (rules, put_one)
