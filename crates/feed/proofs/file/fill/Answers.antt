-- Where the bytes fit they are stored.
use borrow.Author.Rules.{rules}
use Rattle.feed.proofs.Loading.{fills}
use Rattle.feed.proofs.file.fill.Goals as goal

pub returns : goal.returns
returns c = search (rules, fills)
