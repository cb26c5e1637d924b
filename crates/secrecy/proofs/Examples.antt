-- The proved set of the page's examples, from bytes: `worked_examples`.
use mathlib.Core.Path.{◌≡◌, refl, subst}
use mathlib.Core.List.{List, [], ◌∷◌, ◌++◌}
use Prim.Native.Nat.{ℕ, zero, suc, ◌<◌}
use native.Mathlib.Omega.{arith}
use lib.Dec.{T}
use lib.ListN.{length, drop}
use Rattle.refusals.specs.declared.Refusal.{Refusal}
use Rattle.refusals.specs.declared.Refusal.TheVariants.{Success}
use Rattle.gdl.specs.Game.{Game, role_kind, terminal_kind, is_atom, atom_at}
use Rattle.gdl.specs.Flags.{blank}
use Rattle.rules.specs.Judged.{judge}
use Rattle.calls.specs.declared.Looked.{Looked}
use Rattle.calls.specs.Calls.{check, truth, message, hidden_from}
use Rattle.calls.specs.Promises.{CheckPromise, ModelPromise, HiddenPromise}
use Rattle.calls.proofs.Meeting.{check_meets, model_meets, hidden_meets}
use Rattle.secrecy.specs.Histories.{promised, run}
use Rattle.secrecy.specs.Examples.{Endless, Example, checks, endless, models, reads, hides, Holds, EachHolds, smallest, examples}
use Rattle.secrecy.proofs.Evaluating.{verdicts, answers}

-- a row as an equation with what is computed
abbrev Computes : Example → Type 0
Computes (checks s r) = check (judge s) ≡ r
Computes (endless s) = Endless s
Computes (models s flags) = truth (judge s) (blank 512) (blank 8) (blank (length flags)) ≡ (Success, flags)
Computes (reads s h z bytes) = (record { refusal = Success; length = length bytes }, bytes ++ drop (length bytes) (blank 1024)) ≡ message (judge s) (run (promised (judge s)) h) z (blank 1024)
Computes (hides s asking moving m x) = hidden_from (judge s) asking moving m ≡ record { refusal = Success; hidden = x }

abbrev EachComputes : List Example → Type 0
EachComputes [] = Unit {0}
EachComputes (x ∷ xs) = Computes x × EachComputes xs

-- the computed answers keep the promises
holds : (x : Example) → Computes x → Holds x
holds (checks s r) e = subst (CheckPromise s) e (check_meets s)
holds (endless s) e = e
holds (models s flags) e = subst (λ (a : Refusal × List ℕ). ModelPromise (judge s) (blank 512) (blank 8) (blank (length flags)) a) e (model_meets s (blank 512) (blank 8) (blank (length flags)))
holds (reads s h z bytes) e = e
holds (hides s asking moving m x) e = subst (λ (a : Looked). HiddenPromise (judge s) asking moving m a) e (hidden_meets s asking moving m)

each_holds : (xs : List Example) → EachComputes xs → EachHolds xs
each_holds [] h = tt
each_holds (x ∷ xs) h = (holds x h.0, each_holds xs h.1)

-- 6, decoded: one seat with its role, and nothing else
lone : Game
lone = record {
  claim = 0;
  seats = 1;
  chance = 0;
  fluents = 0;
  moves = 1;
  percepts = 0;
  atoms = record { kind = role_kind; first = 0; second = 0 } ∷ [];
  clauses = record { head = 0; body = [] } ∷ [];
}

lone_endless : Endless smallest
unfolding lone verdicts
lone_endless = record { game = lone; accepted = refl; one = refl; never = λ S e. never e.atom e.in_table e.named }
  where
    never : (p : ℕ) → p < 1 → T (is_atom terminal_kind 0 0 (atom_at lone p)) → ⊥
    never zero lt named = named
    never (suc p) lt named = omega arith

computed : EachComputes examples
unfolding examples answers
computed = (refl, (refl, (refl, (refl, (refl, (refl, (lone_endless, (refl, (refl, (refl, (refl, (refl, (refl, (refl, (refl, (refl, (refl, (refl, (refl, (refl, (refl, (refl, (refl, tt)))))))))))))))))))))))

pub worked_examples : EachHolds examples
worked_examples = each_holds examples computed
