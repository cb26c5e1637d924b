-- The mark of a move in the reach of a seat, on an accepted table that was traced.
use mathlib.Core.Path.{◌≡◌, refl, sym, ap, ◌∙◌}
use mathlib.Core.Bool.{Bool, true, false, not}
use mathlib.Core.List.{List}
use Prim.Native.Nat.{ℕ, ◌+◌, ◌*◌, ◌<◌}
use native.Mathlib.Omega.{arith}
use lib.Dec.{eqb, leb}
use lib.ListN.{get_or}
use mir.Val.{bool_byte}
use Rattle.refusals.specs.declared.Refusal.TheVariants.{Success}
use Rattle.gdl.specs.Game.{Game}
use Rattle.gdl.specs.Flags.{on, bit}
use Rattle.gdl.specs.Computed.{reach_of, hidden}
use Rattle.rules.specs.Accepted.{Accepted}
use Rattle.rules.specs.Verdict.{fit}
use Rattle.verdict.specs.Consulted.{Consulted, found_in}
use Rattle.calls.specs.Calls.{hidden_from}
use Rattle.calls.proofs.Returns.{hidden_done}
use Rattle.answers.proofs.Reading.{wide_mark}
use Rattle.answers.proofs.Asking.{MarksIn}
use Rattle.answers.proofs.Outcomes.{Below, below_few}

bit_is : (b : Bool) → bool_byte b ≡ bit b
bit_is true = refl
bit_is false = refl

module _ {c : Consulted} (G : Game) (z : ℕ) (ok : Accepted G) (e : c ≡ found_in G (reach_of G z)) {s m row column : ℕ} (hs : Below G.seats s row) (hm : Below G.moves m column)
    {marks : List ℕ} (em : MarksIn c 4 256 marks) where
  seen : hidden G z s m ≡ not (eqb (get_or marks (row * 256 + column) 0) 1)
  unfolding hidden
  seen =
      let L = ok.limits in
      let small : column < 256 = below_few hm L.moves in let few : row < 8 = below_few hs L.seats in
      rw (← hs.is, ← hm.is) (sym (ap not (wide_mark G L (on (reach_of G z)) 4 L.moves marks (em G (reach_of G z) e L.atoms) row column small (omega arith))))

  pub looked_is : leb G.seats z ≡ false → (x : ℕ) → x ≡ bool_byte (not (eqb (get_or marks (row * 256 + column) 0) 1)) → record { refusal = Success; hidden = x } ≡ hidden_from (fit G) z s m
  looked_is hz x q = rw (q ∙ bit_is (not (eqb (get_or marks (row * 256 + column) 0) 1)) ∙ ap bit (sym seen)) (hidden_done G z s m hz hs.below hm.below)
