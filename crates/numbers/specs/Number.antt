-- "A number (a house number) is a run of one to three bytes, seven bits each, lowest group first."
use Rattle.std.specs.Prelude.{ℕ, ◌+◌, ◌*◌, ◌%◌, List, length, get_or, ltb, leb, eqb, if◌then◌else◌, Result, Ok, Err}
use Rattle.numbers.specs.declared.Item.{Item}
use Rattle.numbers.specs.declared.Fault.{Fault}
use Rattle.numbers.specs.declared.Fault.TheVariants.{Long, Large}
use Rattle.numbers.specs.declared.Fault.TheVariants as F
use Rattle.numbers.specs.declared.Run.{Run}
use Rattle.numbers.specs.declared.Run.TheVariants.{Cut, One, Two, Three}

-- "The top bit is set on every byte but the last." "A run that the input cuts off is fault 1."
unfoldable pub run_at : List ℕ → ℕ → Run
run_at s at =
    let a = get_or s at 0 in
    let b = get_or s (at + 1) 0 in
    let c = get_or s (at + 2) 0 in
    if leb (length s) at then Cut else
    if ltb a 128 then One a else
    if leb (length s) (at + 1) then Cut else
    if ltb b 128 then Two a b else
    if leb (length s) (at + 2) then Cut else Three a b c

-- the seven bits of a byte
abbrev pub bits : ℕ → ℕ
bits a = a % 128

-- a number that was read, and the place after it
abbrev pub read : ℕ → ℕ → Result Item Fault
read v next = Ok (record { value = v; next = next })

-- "Only the shortest form is allowed: in a run of two or three bytes the last byte is not 0."
unfoldable pub number_of_two : ℕ → ℕ → ℕ → Result Item Fault
number_of_two a b next = if eqb b 0 then Err Long else read (bits a + 128 * bits b) next

-- "A set top bit on a third byte is fault 2." "The largest value is 65,535."
unfoldable pub number_of_three : ℕ → ℕ → ℕ → ℕ → Result Item Fault
number_of_three a b c next =
    let value = bits a + 128 * bits b + 16384 * bits c in
    if eqb c 0 then Err Long else
    if leb 128 c then Err Large else
    if ltb 65535 value then Err Large else read value next

abbrev pub number_of : Run → ℕ → Result Item Fault
number_of Cut at = Err F.Cut
number_of (One a) at = read (bits a) (at + 1)
number_of (Two a b) at = number_of_two a b (at + 2)
number_of (Three a b c) at = number_of_three a b c (at + 3)

-- the number that starts at a place of s, and the place after it
unfoldable pub number_at : List ℕ → ℕ → Result Item Fault
number_at s at = number_of (run_at s at) at
