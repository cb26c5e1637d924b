-- A digit of a word that is hex counts below 16.
use borrow.Author.Rules.{rules}
use Rattle.lines.proofs.Pairing.{smalls}
use Rattle.lines.proofs.hex.write_bytes.Goals as goal

pub joined-requires : goal.joined-requires
joined-requires c = search (rules, smalls)
