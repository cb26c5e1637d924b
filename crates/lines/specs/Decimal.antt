-- Decimal numbers: "numbers are decimal", and "a number over 65,535" is refused.
use Rattle.std.specs.Prelude.{ℕ, zero, suc, ◌+◌, ◌*◌, ◌-◌, ◌/◌, ◌%◌, ◌<◌, ◌≡◌, Bool, ◌&&◌, List, [], ◌∷◌, ◌++◌, leb, ltb, drop, length, if◌then◌else◌, Result, Ok, Err}
use Rattle.lines.specs.Every.{every}
use Rattle.lines.specs.declared.decimal.DecimalFault.{DecimalFault}
use Rattle.lines.specs.declared.decimal.DecimalFault.TheVariants.{NotDecimal, TooLarge}

-- the bytes of the digits 0 to 9
abbrev pub is_digit : ℕ → Bool
is_digit b = leb 48 b && leb b 57

-- the number that digits make behind a number
abbrev pub value_from : ℕ → List ℕ → ℕ
value_from n [] = n
value_from n (b ∷ bs) = value_from (10 * n + (b - 48)) bs

abbrev pub value_of : List ℕ → ℕ
value_of w = value_from 0 w

-- what a word says: at least one digit and nothing else, and at most 65,535
unfoldable pub decimal_of : List ℕ → Result ℕ DecimalFault
decimal_of w =
    if leb (length w) 0 then Err NotDecimal else
    if every is_digit w then (if leb (value_of w) 65535 then Ok (value_of w) else Err TooLarge) else Err NotDecimal

-- the byte of a number's last digit
abbrev pub digit_of : ℕ → ℕ
digit_of x = 48 + x % 10

-- a number in at most so many digits, with no 0 in front
abbrev pub digits : ℕ → ℕ → List ℕ
digits zero x = []
digits (suc n) x = if ltb x 10 then digit_of x ∷ [] else digits n (x / 10) ++ (digit_of x ∷ [])

-- a number of at most twenty digits
unfoldable pub decimal_text : ℕ → List ℕ
decimal_text x = digits 20 x

-- the digits of a number stand at the end of a room of twenty
pub record Digits (x at : ℕ) (room : List ℕ) : Type 0 where
  pub within : at < 20
  pub size : length room ≡ 20
  pub text : drop at room ≡ decimal_text x
