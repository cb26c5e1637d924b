-- The number of a wrong length is no refusal's: `apart`.
use mathlib.Core.Logic.{◌≢◌}
use native.Mathlib.Omega.{arith}
use Rattle.refusals.specs.declared.Refusal.{Refusal}
use Rattle.refusals.specs.declared.Refusal.TheVariants.{Success, InputEnds, NotANumber, OutOfRange, NotAbove, BytesAfter, RoleWithBody, NeverHead, NeverInBody, InitRule, DoesRule, NoLevels, NoRoleFact, TableTooLong, RoomTooShort, NoSuchSeat, NoSuchMove, AlreadyChosen, NotLegal, GameOver, NoChoice, BadShape, LastRound}
use Rattle.refusals.specs.Refusal.{number_of}
use Rattle.host.specs.Hosted.{wrong_length}

pub apart : (r : Refusal) → number_of r ≢ wrong_length.number
apart Success e = omega arith
apart (InputEnds p) e = omega arith
apart (NotANumber p) e = omega arith
apart (OutOfRange p) e = omega arith
apart (NotAbove p) e = omega arith
apart (BytesAfter p) e = omega arith
apart (RoleWithBody p) e = omega arith
apart (NeverHead p) e = omega arith
apart (NeverInBody p) e = omega arith
apart (InitRule p) e = omega arith
apart (DoesRule p) e = omega arith
apart (NoLevels p) e = omega arith
apart (NoRoleFact p) e = omega arith
apart TableTooLong e = omega arith
apart RoomTooShort e = omega arith
apart NoSuchSeat e = omega arith
apart NoSuchMove e = omega arith
apart AlreadyChosen e = omega arith
apart (NotLegal p) e = omega arith
apart GameOver e = omega arith
apart (NoChoice p) e = omega arith
apart BadShape e = omega arith
apart LastRound e = omega arith
