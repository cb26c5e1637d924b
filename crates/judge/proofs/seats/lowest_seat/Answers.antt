-- The library's `find` over the seats finds the lowest that the test strikes.
use mathlib.Core.Path.{refl}
use Rattle.std.proofs.Common.{rules, tests, not}
use Rattle.rules.specs.Rules.{some}
use Rattle.judge.specs.Arrays.{role_of}
use Rattle.judge.proofs.Searching.{find_lowest}
use Rattle.judge.proofs.Seating.{seat_told}
use Rattle.judge.proofs.seats.lowest_seat.Goals as goal

pub returns : goal.returns
returns c =
    find_lowest _ _ (λ s. not (some (role_of c.args.atoms.now s) c.args.clauses.now.heads.now)) _ _ _ _ (seat_told _ _ _) refl c.find.ensures.ran
    (λ x b q h. search (rules, tests))
