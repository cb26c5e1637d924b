-- Where the bytes fit they are stored.
use borrow.Author.Rules.{rules}
use Rattle.lines.proofs.Putting.{put}
use Rattle.lines.proofs.text.put_text.Goals as goal

pub returns : goal.returns
returns c = search (rules, put)
