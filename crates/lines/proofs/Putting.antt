-- Laws of putting bytes into lent room, where they fit.
use mathlib.Core.Path.{◌≡◌}
use mathlib.Core.List.{List}
use Prim.Native.Nat.{ℕ, ◌+◌, ◌-◌, ◌≤◌, ◌<◌}
use native.Mathlib.Omega.{arith}
use lib.ListN.{length}
use lib.Seq.{sets}
use Rattle.numbers.specs.Writing.{written_at}
use Rattle.numbers.proofs.Writing.{fit, too_many}

module _ (part room : List ℕ) (at : ℕ) where
  pub no_such_place : length room < at → (at, room) ≡ written_at part at room
  no_such_place h = too_many part at room (omega arith)

  pub no_room : length room - at < length part → (at, room) ≡ written_at part at room
  no_room h = too_many part at room (omega arith)

  pub put : (after : List ℕ) → at ≤ length room → length part ≤ length room - at → after ≡ sets room at part → (at + length part, after) ≡ written_at part at room
  put after h k e = rw e (fit part at room (omega arith))

pub ruleset puts = (no_such_place, no_room, put)
