-- The tests of model and message on an accepted table that was consulted, and what they write.
use mathlib.Core.Path.{◌≡◌, ap, ap₂, ◌∙◌}
use mathlib.Core.Bool.{Bool, true, false, ◌&&◌}
use mathlib.Core.List.{List, ◌++◌}
use Prim.Native.Nat.{ℕ, ◌≤◌, ◌<◌}
use native.Mathlib.Omega.{arith}
use lib.ListN.{length, take, drop}
use lib.Seq.{take-append_seam}
use borrow.Author.Tests.{lt-ltb, le-ltb}
use Rattle.refusals.specs.declared.Refusal.TheVariants.{Success, BadShape, RoomTooShort}
use Rattle.gdl.specs.Game.{Game}
use Rattle.gdl.specs.Lists.{every}
use Rattle.gdl.specs.Computed.{model}
use Rattle.gdl.proofs.Modelled.{model_length}
use Rattle.rules.specs.Verdict.{fit}
use Rattle.session.specs.Shape.{flag_fits, below, choice_within, position_shaped, choices_shaped, limits_of}
use Rattle.session.specs.declared.shape.Limits.{Limits}
use Rattle.verdict.specs.Consulted.{Consulted}
use Rattle.calls.specs.Position.{moved}
use Rattle.calls.specs.Calls.{truth}
use Rattle.calls.proofs.Returns.{model_bad_shape, model_no_room, model_done}
use Rattle.answers.proofs.Asking.{Consults}
use Rattle.answers.proofs.Outcomes.{seats_are, moves_are}

-- ---- the model call

module _ (G : Game) {l : Limits} (here : l ≡ limits_of G) {c : Consulted} {pos ch : List ℕ} (w : Consults c G pos ch) (room : List ℕ) where
  module _ {p : Bool} (ep : p ≡ every (flag_fits (below l.fluents)) pos) where
    position_here : p ≡ position_shaped G pos
    unfolding position_shaped
    position_here = ep ∙ ap (λ (n : ℕ). every (flag_fits (below n)) pos) (ap (λ (x : Limits). x.fluents) here)

    pub position_out : p ≡ false → (BadShape, room) ≡ truth (fit G) pos ch room
    position_out n = model_bad_shape G pos ch room (rw (← position_here, n))

    module _ (np : p ≡ true) {q : Bool} (eq : q ≡ every (choice_within l.seats l.moves) ch) where
      choices_here : q ≡ choices_shaped G ch
      unfolding choices_shaped
      choices_here = eq ∙ ap₂ (λ (r m : ℕ). every (choice_within r m) ch) (seats_are G here) (moves_are G here)

      pub choices_out : q ≡ false → (BadShape, room) ≡ truth (fit G) pos ch room
      choices_out n = model_bad_shape G pos ch room (rw (← position_here, np, ← choices_here, n))

      module _ (nq : q ≡ true) where
        good : (position_shaped G pos && choices_shaped G ch) ≡ true
        good = rw (← position_here, np, ← choices_here, nq)

        atoms_here : c.header.sizes.atoms ≡ length G.atoms
        atoms_here = ap (λ (x : Consulted). x.header.sizes.atoms) w.is

        pub room_out : length room < c.header.sizes.atoms → (RoomTooShort, room) ≡ truth (fit G) pos ch room
        room_out lt = model_no_room G pos ch room good (lt-ltb (length room) (length G.atoms) (omega (arith, atoms_here)))

        pub model_copied : c.header.sizes.atoms ≤ length room → (room' : List ℕ) → room' ≡ take c.header.sizes.atoms c.flags ++ drop c.header.sizes.atoms room → (Success, room') ≡ truth (fit G) pos ch room
        unfolding moved
        model_copied le room' q' =
            let A : ℕ = length G.atoms in
            let f : take A c.flags ≡ model G pos ch =
            ap (λ (x : Consulted). take A x.flags) w.is ∙ (let n : length (model G pos ch) ≡ A = model_length G w.accepted.valid pos ch in rw (← n) (take-append_seam (model G pos ch) _)) in
            let r : room' ≡ model G pos ch ++ drop A room = q' ∙ (rw atoms_here (ap (λ (x : List ℕ). x ++ drop A room) f)) in
            ap (λ (x : List ℕ). (Success, x)) r ∙ model_done G pos ch room good (le-ltb (length room) A (omega (arith, atoms_here)))
