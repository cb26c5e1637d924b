-- Where the digits fit they are stored.
use Rattle.std.proofs.Common.{◌<◌, length, rules, arith}
use Rattle.std.proofs.lemmas.Bool.Decides.{nat_tests}
use Rattle.lines.proofs.Pairing.{hex_put}
use Rattle.lines.proofs.hex.put_hex.Goals as goal

pub returns : goal.returns
returns c =
    let some : 0 < length c.args.bytes.now = grind (arith, nat_tests) in
    search (rules, hex_put)
