-- The computed answers keep the promises that are relations.
use mathlib.Core.Path.{◌≡◌, refl, sym, subst}
use mathlib.Core.List.{List, ◌++◌}
use Prim.Native.Nat.{ℕ, ◌≤◌}
use native.Mathlib.Omega.{arith}
use lib.Dec.{T}
use lib.ListN.{length, get_or, drop, length-append, length-drop, get_or-append}
use lib.Seq.{drop_at}
use borrow.Author.Tests.{ltb-false}
use Rattle.refusals.specs.declared.Refusal.{Refusal}
use Rattle.refusals.specs.declared.Refusal.TheVariants.{Success}
use Rattle.refusals.specs.Ruling.{Test, Ruling, passed, refused, first_of}
use Rattle.gdl.specs.Game.{Game}
use Rattle.gdl.specs.Flags.{on, bit}
use Rattle.gdl.specs.Computed.{model, hidden}
use Rattle.gdl.proofs.Bits.{bits_at, model_bits}
use Rattle.gdl.proofs.Modelled.{model_length, model_is, model_only}
use Rattle.gdl.proofs.Reaching.{hidden_means}
use Rattle.rules.specs.Verdict.{Verdict, unfit, fit}
use Rattle.rules.specs.Judged.{judge}
use Rattle.rules.specs.Accepted.{Accepted}
use Rattle.rules.proofs.Judging.{judge_is}
use Rattle.rules.proofs.Accepting.{accepted}
use Rattle.calls.specs.Answer.{settle, answer}
use Rattle.calls.specs.Position.{moved}
use Rattle.calls.specs.Calls.{model_tests, hidden_tests, check, truth, hidden_from}
use Rattle.calls.specs.Promises.{CheckPromise, ModelWritten, ModelPromise, HiddenSaid, HiddenPromise}
use Rattle.calls.proofs.Rulings.{AllKept, passed_kept}
use Rattle.calls.proofs.Passing.{model_kept}
use Rattle.calls.proofs.Publishing.{bit_flag, element_flag}

pub check_meets : (s : List ℕ) → CheckPromise s (check (judge s))
check_meets s = record { verdict = judge s; judged = judge_is s; answers = refl }

-- an answer keeps a promise that is written with the same tests
meets : {W : Type 0} (v : Verdict) (tests : Game → List Test) (refusal : Refusal → W) (work : Game → W) (Work : Game → W → Type 0)
    → ((G : Game) → v ≡ fit G → AllKept (tests G) → Work G (work G)) → answer v tests (λ r a. a ≡ refusal r) Work (answer v tests refusal work)
meets (unfit r) tests refusal work Work f = refl
meets {W = W} (fit G) tests refusal work Work f = go (first_of (tests G)) (λ e. f G refl (passed_kept (tests G) e))
  where
    go : (a : Ruling) → (a ≡ passed → Work G (work G)) → settle a (λ r (x : W). x ≡ refusal r) (Work G) (settle a refusal (work G))
    go passed k = k refl
    go (refused r) k = refl

pub model_meets : (s pos ch room : List ℕ) → ModelPromise (judge s) pos ch room (truth (judge s) pos ch room)
unfolding truth moved
model_meets s pos ch room = meets (judge s) (model_tests pos ch (length room)) (λ r. (r, room)) (λ G. (Success, model G pos ch ++ drop (length G.atoms) room))
    (λ G a. ModelWritten G pos ch room a) (λ G e k. written G (accepted s G e) (ltb-false (length room) (length G.atoms) (model_kept G pos ch room k).places))
  where
    written : (G : Game) → Accepted G → length G.atoms ≤ length room → ModelWritten G pos ch room (Success, model G pos ch ++ drop (length G.atoms) room)
    written G ok big =
        let A : ℕ = length G.atoms in
        let M : List ℕ = model G pos ch in
        let long : length M ≡ A = model_length G ok.valid pos ch in
        record {
          refusal = refl;
          size = rw (length-append M (drop A room), length-drop A room) (omega (arith, long, big));
          flags = λ p lt. rw (get_or-append M (drop A room) 0 p (rw long lt)) (element_flag (get_or M p 0) (bits_at M p (model_bits G pos ch))
              (λ x X m. subst T (sym (model_only G ok.valid pos ch X m p)) x, λ h. h (on M) (model_is G ok.valid pos ch)));
          later = drop_at M (drop A room) A long;
        }

pub hidden_meets : (s : List ℕ) (asking moving m : ℕ) → HiddenPromise (judge s) asking moving m (hidden_from (judge s) asking moving m)
unfolding hidden_from
hidden_meets s asking moving m = meets (judge s) (hidden_tests asking moving m) (λ r. record { refusal = r; hidden = 0 })
    (λ G. record { refusal = Success; hidden = bit (hidden G asking moving m) }) (λ G a. HiddenSaid G asking moving m a)
    (λ G e k. record { refusal = refl; hidden = bit_flag (hidden G asking moving m) (hidden_means G (accepted s G e).valid asking moving m) })
