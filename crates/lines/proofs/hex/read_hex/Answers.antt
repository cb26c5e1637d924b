-- A word that is hex is taken where its bytes fit.
use borrow.Author.Rules.{rules}
use Rattle.lines.proofs.Pairing.{took}
use Rattle.lines.proofs.hex.read_hex.Goals as goal

pub returns : goal.returns
returns c = search (rules, took)
