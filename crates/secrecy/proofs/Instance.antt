-- Demand 3 at work: after 12 and after 13, which differ in a move of seat 0, every program sends seat 1 the same message.
use mathlib.Core.Path.{◌≡◌, refl, subst}
use mathlib.Core.Logic.{◌⊎◌, inl, inr, ◌≢◌}
use mathlib.Core.List.{List, [], ◌∷◌}
use Prim.Native.Nat.{ℕ, zero, suc, ◌≤◌}
use native.Mathlib.Omega.{arith}
use lib.ListN.{length, get_or}
use Rattle.gdl.specs.Game.{Game}
use Rattle.gdl.specs.Reach.{Hidden}
use Rattle.rules.specs.Verdict.{Verdict, unfit, fit}
use Rattle.rules.specs.Judged.{judge}
use Rattle.calls.proofs.Publishing.{demand_2}
use Rattle.secrecy.specs.Histories.{Program, Keeps, promised, run, rounds, HiddenMove, AlikeRound, none_yet, one_more, Alike, SameMessage}
use Rattle.secrecy.specs.Examples.{penny, both}
use Rattle.secrecy.proofs.Evaluating.{verdicts, answers}
use Rattle.secrecy.proofs.Secrecy.{keeps_same, demand_3}

-- the game of a verdict that accepts
game_of : Verdict → Game
game_of (unfit r) = record { claim = 0; seats = 0; chance = 0; fluents = 0; moves = 0; percepts = 0; atoms = []; clauses = [] }
game_of (fit G) = G

game : Game
game = game_of (judge penny)

accepts : judge penny ≡ fit game
unfolding game_of game verdicts
accepts = refl

-- one more than the move, for each of eight seats
abbrev moves : ℕ → List ℕ
moves a = suc a ∷ 1 ∷ 0 ∷ 0 ∷ 0 ∷ 0 ∷ 0 ∷ 0 ∷ []

played_0 : rounds (promised (judge penny)) (both 0 0) ≡ moves 0 ∷ []
unfolding answers
played_0 = refl

played_1 : rounds (promised (judge penny)) (both 1 0) ≡ moves 1 ∷ []
unfolding answers
played_1 = refl

hidden_0 : Hidden game 1 0 0
unfolding game_of game answers
hidden_0 = ((demand_2 penny game accepts).hidden 1 0 0 (omega arith) (omega arith) (omega arith)).hidden.one.0 refl

hidden_1 : Hidden game 1 0 1
unfolding game_of game answers
hidden_1 = ((demand_2 penny game accepts).hidden 1 0 1 (omega arith) (omega arith) (omega arith)).hidden.one.0 refl

alike : AlikeRound game 1 (moves 0) (moves 1)
alike = record { own = refl; others = go }
  where
    move : (a : ℕ) → Hidden game 1 0 a → HiddenMove game 1 0 (moves a)
    move a h = record { hidden = λ m e. let z : a ≡ m = omega arith in subst (λ (x : ℕ). Hidden game 1 0 x) z h }

    go : (s : ℕ) → s ≢ 1 → (get_or (moves 0) s 0 ≡ get_or (moves 1) s 0) ⊎ (HiddenMove game 1 s (moves 0) × HiddenMove game 1 s (moves 1))
    go zero ne = inr (move 0 hidden_0, move 1 hidden_1)
    go (suc zero) ne = absurd (ne refl)
    go (suc (suc n)) ne = inl refl

pub same_for_seat_1 : (P : Program) → Keeps (judge penny) P → (room room' : List ℕ) → 1024 ≤ length room → 1024 ≤ length room'
    → SameMessage (P.sends (run P (both 0 0)) 1 room) (P.sends (run P (both 1 0)) 1 room')
same_for_seat_1 P k = (demand_3 penny game accepts P k 1).messages (both 0 0) (both 1 0)
    (subst (λ (Q : Program). Alike Q game 1 (both 0 0) (both 1 0)) (keeps_same (judge penny) P k) (rw (played_0, played_1) (one_more alike none_yet)))
