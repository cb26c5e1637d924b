-- Reading, as a definition: a reader goes from the bytes and a place to a value and the place after it, or to a refusal with its place.
use Rattle.std.specs.Prelude.{ℕ, ◌+◌, List, Bool, true, false, ltb, leb, length, if◌then◌else◌, Result, Ok, Err}
use Rattle.numbers.specs.Number.{number_at}
use Rattle.numbers.specs.declared.Item.{Item}
use Rattle.numbers.specs.declared.Fault.{Fault}
use Rattle.numbers.specs.declared.Fault.TheVariants.{Cut, Long, Large}
use Rattle.refusals.specs.declared.Refusal.{Refusal}
use Rattle.refusals.specs.declared.Refusal.TheVariants.{InputEnds, NotANumber, OutOfRange}

pub data Parse (A : Type 0) : Type 0 where
  ok : A → ℕ → Parse A
  fault : Refusal → Parse A

abbrev pub Reader : Type 0 → Type 0
Reader A = List ℕ → ℕ → Parse A

-- what follows a value that was read; a fault ends the reading: "the first deciding"
abbrev pub after : {A B : Type 0} → Parse A → (A → ℕ → Parse B) → Parse B
after (ok a n) k = k a n
after (fault f) k = fault f

infixl 20 ◌>>=◌
abbrev pub ◌>>=◌ : {A B : Type 0} → Reader A → (A → Reader B) → Reader B
(r >>= k) s at = after (r s at) (λ a n. k a s n)

abbrev pub give : {A : Type 0} → A → Reader A
give a s at = ok a at

-- the place that the reading has come to, and how many bytes there are
abbrev pub place : Reader ℕ
place s at = ok at at

abbrev pub size : Reader ℕ
size s at = ok (length s) at

-- a refusal, if a test strikes
infix 75 refuse◌if◌
abbrev pub refuse◌if◌ : Refusal → Bool → Reader (Unit {0})
(refuse f if true) s at = fault f
(refuse f if false) s at = ok tt at

-- "input ends inside or before a number"; "number not shortest, or over 65,535" are one fault
abbrev pub refusal_of : Fault → ℕ → Refusal
refusal_of Cut at = InputEnds at
refusal_of Long at = NotANumber at
refusal_of Large at = NotANumber at

-- "a number faulty as a number is not tested for range"
abbrev pub in_range : ℕ → ℕ → ℕ → Result Item Fault → Parse ℕ
in_range lo end at (Ok i) = if ltb i.value lo then fault (OutOfRange at) else if leb end i.value then fault (OutOfRange at) else ok i.value i.next
in_range lo end at (Err f) = fault (refusal_of f at)

-- a number from lo up to but not at end
unfoldable pub bounded : ℕ → ℕ → Reader ℕ
bounded lo end s at = in_range lo end at (number_at s at)

-- a number from lo to hi
infix 75 number◌to◌
abbrev pub number◌to◌ : ℕ → ℕ → Reader ℕ
number lo to hi = bounded lo (hi + 1)
