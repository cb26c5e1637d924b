-- "Numbers of refusal": the number and the place of each case. "Success answers 0, place 0."
use Rattle.std.specs.Prelude.{ℕ}
use Rattle.refusals.specs.declared.Refusal.{Refusal}
use Rattle.refusals.specs.declared.Refusal.TheVariants.{Success, InputEnds, NotANumber, OutOfRange, NotAbove, BytesAfter, RoleWithBody, NeverHead, NeverInBody, InitRule, DoesRule, NoLevels, NoRoleFact, TableTooLong, RoomTooShort, NoSuchSeat, NoSuchMove, AlreadyChosen, NotLegal, GameOver, NoChoice, BadShape, LastRound}

abbrev pub number_of : Refusal → ℕ
number_of Success = 0
-- "input ends inside or before a number"
number_of (InputEnds p) = 1
-- "number not shortest, or over 65,535"
number_of (NotANumber p) = 2
-- "number outside its range, or a literal count that takes the total past 8,192"
number_of (OutOfRange p) = 3
-- "atom record not above the one before"
number_of (NotAbove p) = 4
-- "bytes after the last clause"
number_of (BytesAfter p) = 5
-- "role clause with literals"
number_of (RoleWithBody p) = 6
-- "true or does as head"
number_of (NeverHead p) = 7
-- "init, next or sees in a body"
number_of (NeverInBody p) = 8
-- "init rule"
number_of (InitRule p) = 9
-- "does rule"
number_of (DoesRule p) = 10
-- "no levels"
number_of (NoLevels p) = 11
-- "seat without a role fact"
number_of (NoRoleFact p) = 12
-- "table over 65,535 bytes"
number_of TableTooLong = 13
-- "lent room under A places (model) or 1,024 bytes (message)"
number_of RoomTooShort = 14
-- "seat not below R"
number_of NoSuchSeat = 15
-- "move not below M"
number_of NoSuchMove = 16
-- "seat has already chosen"
number_of AlreadyChosen = 17
-- "move not legal"
number_of (NotLegal p) = 18
-- "game over"
number_of GameOver = 19
-- "a seat has no choice"
number_of (NoChoice p) = 20
-- "session record or position badly shaped"
number_of BadShape = 21
-- "round is 65,535"
number_of LastRound = 22

abbrev pub place_of : Refusal → ℕ
place_of Success = 0
-- "where that number starts"
place_of (InputEnds p) = p
place_of (NotANumber p) = p
place_of (OutOfRange p) = p
-- "where the record starts"
place_of (NotAbove p) = p
-- "the first of them"
place_of (BytesAfter p) = p
-- "lowest clause"
place_of (RoleWithBody p) = p
place_of (NeverHead p) = p
place_of (NeverInBody p) = p
-- "lowest such init atom", "lowest such atom", "lowest p .."
place_of (InitRule p) = p
place_of (DoesRule p) = p
place_of (NoLevels p) = p
-- "lowest seat"
place_of (NoRoleFact p) = p
place_of TableTooLong = 0
place_of RoomTooShort = 0
place_of NoSuchSeat = 0
place_of NoSuchMove = 0
place_of AlreadyChosen = 0
-- "offer: 0; play: lowest seat"
place_of (NotLegal p) = p
place_of GameOver = 0
-- "lowest seat"
place_of (NoChoice p) = p
place_of BadShape = 0
place_of LastRound = 0
