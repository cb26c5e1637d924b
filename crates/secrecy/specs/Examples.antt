-- "Examples on each side": the proved set (P), as one table. A row is the bytes of a table, what is asked of it, and the page's answer.
use Rattle.std.specs.Prelude.{◌≡◌, List, [], ◌∷◌, ◌++◌, ℕ, length, drop}
use Rattle.refusals.specs.declared.Refusal.{Refusal}
use Rattle.refusals.specs.declared.Refusal.TheVariants.{Success, InputEnds, NotANumber, OutOfRange, BytesAfter, NoLevels}
use Rattle.gdl.specs.Game.{Game}
use Rattle.gdl.specs.Truth.{State}
use Rattle.gdl.specs.Published.{t}
use Rattle.gdl.specs.Flags.{blank}
use Rattle.rules.specs.Verdict.{fit}
use Rattle.rules.specs.Judged.{judge}
use Rattle.calls.specs.Calls.{message}
use Rattle.calls.specs.Promises.{CheckPromise, ModelPromise, HiddenPromise}
use Rattle.secrecy.specs.Histories.{promised, offering, playing, History, opening, ◌▷◌, run}

-- accepted, with one seat, and over in no position
pub record Endless (s : List ℕ) : Type 0 where
  pub game : Game
  pub accepted : judge s ≡ fit game
  pub one : game.seats ≡ 1
  pub never : (S : State) → ¬ t game S

pub data Example : Type 0 where
  -- the check answers this
  checks : List ℕ → Refusal → Example
  -- accepted, one seat, never over
  endless : List ℕ → Example
  -- the model call writes these flags, for the empty position without moves
  models : List ℕ → List ℕ → Example
  -- after these calls the seat reads these bytes
  reads : List ℕ → History → ℕ → List ℕ → Example
  -- of the asking seat, the moving seat and the move hidden answers this
  hides : List ℕ → ℕ → ℕ → ℕ → ℕ → Example

-- the promise of the call that is asked, of the answer in the row
abbrev pub Holds : Example → Type 0
Holds (checks s r) = CheckPromise s r
Holds (endless s) = Endless s
Holds (models s flags) = ModelPromise (judge s) (blank 512) (blank 8) (blank (length flags)) (Success, flags)
Holds (reads s h z bytes) = (record { refusal = Success; length = length bytes }, bytes ++ drop (length bytes) (blank 1024)) ≡ message (judge s) (run (promised (judge s)) h) z (blank 1024)
Holds (hides s asking moving m x) = HiddenPromise (judge s) asking moving m (record { refusal = Success; hidden = x })

abbrev pub EachHolds : List Example → Type 0
EachHolds [] = Unit {0}
EachHolds (x ∷ xs) = Holds x × EachHolds xs

-- ---- the tables

abbrev pub smallest : List ℕ
smallest = 0x01 ∷ 0x00 ∷ 0x01 ∷ 0x00 ∷ 0x00 ∷ 0x01 ∷ 0x00 ∷ 0x01 ∷ 0x01 ∷ 0x00 ∷ 0x01 ∷ 0x00 ∷ 0x00 ∷ []

-- "A plain atom p with only p if not p"
abbrev pub p_if_not_p : List ℕ
p_if_not_p = 0x01 ∷ 0x00 ∷ 0x01 ∷ 0x00 ∷ 0x00 ∷ 0x01 ∷ 0x00 ∷ 0x01 ∷ 0x00 ∷ 0x00 ∷ 0x00 ∷ 0x01 ∷ 0x00 ∷ 0x01 ∷ 0x01 ∷ []

-- "Only p if p", and the seat's role as the second atom
abbrev pub p_if_p : List ℕ
p_if_p = 0x01 ∷ 0x00 ∷ 0x01 ∷ 0x00 ∷ 0x00 ∷ 0x01 ∷ 0x00 ∷ 0x02 ∷ 0x00 ∷ 0x00 ∷ 0x00 ∷ 0x01 ∷ 0x00 ∷ 0x02 ∷ 0x01 ∷ 0x00 ∷ 0x00 ∷ 0x01 ∷ 0x00 ∷ []

-- "p and q of different relations, q if q; p if not q", and the role as the third
abbrev pub p_if_not_q : List ℕ
p_if_not_q =
    0x01 ∷ 0x00 ∷ 0x01 ∷ 0x00 ∷ 0x00 ∷ 0x01 ∷ 0x00 ∷ 0x03 ∷ 0x00 ∷ 0x00 ∷ 0x00 ∷ 0x00 ∷ 0x01 ∷ 0x00 ∷ 0x01 ∷ 0x00 ∷
    0x03 ∷ 0x02 ∷ 0x00 ∷ 0x01 ∷ 0x01 ∷ 0x02 ∷ 0x00 ∷ 0x01 ∷ 0x03 ∷ []

abbrev pub penny : List ℕ
penny =
    -- "R 2, no chance seat, F 2, M 2, P 1", and 19 atoms
    0x01 ∷ 0x00 ∷ 0x02 ∷ 0x00 ∷ 0x02 ∷ 0x02 ∷ 0x01 ∷ 0x13 ∷
    -- 0, 1: role; 2: init(0); 3, 4: true
    0x01 ∷ 0x00 ∷ 0x01 ∷ 0x01 ∷ 0x02 ∷ 0x00 ∷ 0x03 ∷ 0x00 ∷ 0x03 ∷ 0x01 ∷
    -- 5 to 8: does; 9 to 12: legal
    0x04 ∷ 0x00 ∷ 0x00 ∷ 0x04 ∷ 0x00 ∷ 0x01 ∷ 0x04 ∷ 0x01 ∷ 0x00 ∷ 0x04 ∷ 0x01 ∷ 0x01 ∷
    0x05 ∷ 0x00 ∷ 0x00 ∷ 0x05 ∷ 0x00 ∷ 0x01 ∷ 0x05 ∷ 0x01 ∷ 0x00 ∷ 0x05 ∷ 0x01 ∷ 0x01 ∷
    -- 13: next(1); 14: sees(0, 0); 15: terminal; 16 to 18: goal(0, 0), goal(0, 100), goal(1, 50)
    0x06 ∷ 0x01 ∷ 0x07 ∷ 0x00 ∷ 0x00 ∷ 0x08 ∷ 0x09 ∷ 0x00 ∷ 0x00 ∷ 0x09 ∷ 0x00 ∷ 0x64 ∷ 0x09 ∷ 0x01 ∷ 0x32 ∷
    -- 14 clauses: "Role facts for both", "init(0)", "All four legal atoms if true(0)"
    0x0E ∷ 0x00 ∷ 0x00 ∷ 0x01 ∷ 0x00 ∷ 0x02 ∷ 0x00 ∷ 0x09 ∷ 0x01 ∷ 0x06 ∷ 0x0A ∷ 0x01 ∷ 0x06 ∷ 0x0B ∷ 0x01 ∷ 0x06 ∷ 0x0C ∷ 0x01 ∷ 0x06 ∷
    -- "next(1) if both do move 0; next(1) if both do move 1", "sees(0, 0) if does(1, 0)", "terminal if not true(0)"
    0x0D ∷ 0x02 ∷ 0x0A ∷ 0x0E ∷ 0x0D ∷ 0x02 ∷ 0x0C ∷ 0x10 ∷ 0x0E ∷ 0x01 ∷ 0x0E ∷ 0x0F ∷ 0x01 ∷ 0x07 ∷
    -- "goal(0, 0) if not true(1); goal(0, 100) if true(1); goal(1, 50) always"
    0x10 ∷ 0x01 ∷ 0x09 ∷ 0x11 ∷ 0x01 ∷ 0x08 ∷ 0x12 ∷ 0x00 ∷ []

-- both seats choose, and the round is played
abbrev pub both : ℕ → ℕ → History
both a b = opening ▷ offering 0 a ▷ offering 1 b ▷ playing

unfoldable pub examples : List Example
examples =
    -- 1 to 5: "Empty input: 1, place 0", "`80 00`: 2", "`FF FF`: 1", "`80 80 04` (65,536): 2", "`02`: 3"
    checks [] (InputEnds 0) ∷
    checks (0x80 ∷ 0x00 ∷ []) (NotANumber 0) ∷
    checks (0xFF ∷ 0xFF ∷ []) (InputEnds 0) ∷
    checks (0x80 ∷ 0x80 ∷ 0x04 ∷ []) (NotANumber 0) ∷
    checks (0x02 ∷ []) (OutOfRange 0) ∷
    -- 6: "accepted; one seat, never over. With one byte more: 5, place 13."
    checks smallest Success ∷
    endless smallest ∷
    checks (smallest ++ 0x00 ∷ []) (BytesAfter 13) ∷
    -- 7: "11"
    checks p_if_not_p (NoLevels 0) ∷
    -- 8: "accepted, p false"
    checks p_if_p Success ∷
    models p_if_p (0 ∷ 1 ∷ []) ∷
    -- 9: "p true"
    checks p_if_not_q Success ∷
    models p_if_not_q (1 ∷ 0 ∷ 1 ∷ []) ∷
    -- 11: "Open: seat 0 reads `00 00 00 00 02 00 01 00`."
    checks penny Success ∷
    reads penny opening 0 (0x00 ∷ 0x00 ∷ 0x00 ∷ 0x00 ∷ 0x02 ∷ 0x00 ∷ 0x01 ∷ 0x00 ∷ []) ∷
    -- 12: "Both play 0: seat 0 reads `00 01 01 01 00 00 01 64`, seat 1 reads `01 01 01 00 00 01 32`."
    reads penny (both 0 0) 0 (0x00 ∷ 0x01 ∷ 0x01 ∷ 0x01 ∷ 0x00 ∷ 0x00 ∷ 0x01 ∷ 0x64 ∷ []) ∷
    reads penny (both 0 0) 1 (0x01 ∷ 0x01 ∷ 0x01 ∷ 0x00 ∷ 0x00 ∷ 0x01 ∷ 0x32 ∷ []) ∷
    -- 13: "Seat 0 plays 1, seat 1 plays 0: seat 0 reads `00 01 01 01 00 00 01 00`, seat 1 as in 12."
    reads penny (both 1 0) 0 (0x00 ∷ 0x01 ∷ 0x01 ∷ 0x01 ∷ 0x00 ∷ 0x00 ∷ 0x01 ∷ 0x00 ∷ []) ∷
    reads penny (both 1 0) 1 (0x01 ∷ 0x01 ∷ 0x01 ∷ 0x00 ∷ 0x00 ∷ 0x01 ∷ 0x32 ∷ []) ∷
    -- 14: "Seat 0's moves are hidden from seat 1; seat 1's are not hidden from seat 0."
    hides penny 1 0 0 1 ∷
    hides penny 1 0 1 1 ∷
    hides penny 0 1 0 0 ∷
    hides penny 0 1 1 0 ∷ []
