-- The law of the number 0.
use mathlib.Core.Path.{◌≡◌, refl}
use native.Mathlib.Omega.{arith}
use Rattle.refusals.specs.Refusal.{number_of}
use Rattle.refusals.specs.declared.Refusal.{Refusal}
use Rattle.refusals.specs.declared.Refusal.TheVariants.{Success, InputEnds, NotANumber, OutOfRange, NotAbove, BytesAfter, RoleWithBody, NeverHead, NeverInBody, InitRule, DoesRule, NoLevels, NoRoleFact, TableTooLong, RoomTooShort, NoSuchSeat, NoSuchMove, AlreadyChosen, NotLegal, GameOver, NoChoice, BadShape, LastRound}

-- "Success answers 0", and nothing else does
pub zero_success : (r : Refusal) → number_of r ≡ 0 → r ≡ Success
zero_success Success e = refl
zero_success (InputEnds p) e = absurd (omega arith)
zero_success (NotANumber p) e = absurd (omega arith)
zero_success (OutOfRange p) e = absurd (omega arith)
zero_success (NotAbove p) e = absurd (omega arith)
zero_success (BytesAfter p) e = absurd (omega arith)
zero_success (RoleWithBody p) e = absurd (omega arith)
zero_success (NeverHead p) e = absurd (omega arith)
zero_success (NeverInBody p) e = absurd (omega arith)
zero_success (InitRule p) e = absurd (omega arith)
zero_success (DoesRule p) e = absurd (omega arith)
zero_success (NoLevels p) e = absurd (omega arith)
zero_success (NoRoleFact p) e = absurd (omega arith)
zero_success TableTooLong e = absurd (omega arith)
zero_success RoomTooShort e = absurd (omega arith)
zero_success NoSuchSeat e = absurd (omega arith)
zero_success NoSuchMove e = absurd (omega arith)
zero_success AlreadyChosen e = absurd (omega arith)
zero_success (NotLegal p) e = absurd (omega arith)
zero_success GameOver e = absurd (omega arith)
zero_success (NoChoice p) e = absurd (omega arith)
zero_success BadShape e = absurd (omega arith)
zero_success LastRound e = absurd (omega arith)
