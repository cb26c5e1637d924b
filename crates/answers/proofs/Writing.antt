-- The return of the message call, where the numbers of the message were written one after another.
use mathlib.Core.Path.{◌≡◌, ap, ◌∙◌}
use mathlib.Core.Bool.{true, false}
use mathlib.Core.List.{List, ◌++◌}
use Prim.Native.Nat.{ℕ, ◌+◌, ◌≤◌}
use native.Mathlib.Omega.{arith}
use lib.Dec.{leb, ltb}
use lib.ListN.{length, drop}
use lib.Seq.{sets-eq}
use borrow.Author.Tests.{ltb-false}
use Rattle.numbers.specs.Writing.{bytes_of, written}
use Rattle.numbers.proofs.Writing.{written_fits}
use Rattle.refusals.specs.declared.Refusal.TheVariants.{Success}
use Rattle.gdl.specs.Game.{Game}
use Rattle.rules.specs.Verdict.{fit}
use Rattle.rules.specs.Accepted.{Accepted}
use Rattle.session.specs.Shape.{shaped}
use Rattle.session.specs.declared.Session.{Session}
use Rattle.calls.specs.Message.{message_numbers, message_bytes}
use Rattle.calls.specs.Calls.{message}
use Rattle.calls.proofs.Returns.{message_done}
use Rattle.calls.proofs.Fitting.{message_fits}

-- bytes from the start of a room on
all_written : (ns room : List ℕ) → length (bytes_of ns) ≤ length room → written ns (0, room) ≡ (length (bytes_of ns), bytes_of ns ++ drop (length (bytes_of ns)) room)
all_written ns room h =
    let e : 0 + length (bytes_of ns) ≡ length (bytes_of ns) = omega arith in
    rw e at (written_fits ns 0 room (omega arith) ∙ ap (λ (x : List ℕ). (0 + length (bytes_of ns), x)) (sets-eq (bytes_of ns) room 0 (omega arith)))

pub message_written : (G : Game) → Accepted G → (σ : Session) (z : ℕ) (room : List ℕ) (at : ℕ) (now : List ℕ)
    → shaped G σ ≡ true → leb G.seats z ≡ false → ltb (length room) 1024 ≡ false
    → (at, now) ≡ written (message_numbers G σ z) (0, room) → (record { refusal = Success; length = at }, now) ≡ message (fit G) σ z room
unfolding message_bytes
message_written G ok σ z room at now a b c e =
    let small : length (bytes_of (message_numbers G σ z)) ≤ length room = omega (arith, message_fits G ok σ z, ltb-false (length room) 1024 c) in
    ap (λ (p : ℕ × List ℕ). (record { refusal = Success; length = p.0 }, p.1)) (e ∙ all_written (message_numbers G σ z) room small) ∙ message_done G σ z room a b c
