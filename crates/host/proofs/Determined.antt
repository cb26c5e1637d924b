-- Each promise determines the answer and every byte of lent room, for every input: `determined`.
use mathlib.Core.Path.{◌≡◌, sym, ap, ◌∙◌}
use mathlib.Core.Bool.{Bool, true, false, ◌&&◌, cond}
use mathlib.Core.List.{List}
use Prim.Native.Nat.{ℕ}
use lib.Dec.{eqb}
use lib.ListN.{length}
use Rattle.refusals.specs.declared.Refusal.{Refusal}
use Rattle.rules.specs.Judged.{judge}
use Rattle.session.specs.Bytes.{from_pairs}
use Rattle.calls.specs.declared.Looked.{Looked}
use Rattle.calls.proofs.Determining.{by_equation, check_determined, model_determined, hidden_determined}
use Rattle.host.specs.declared.Answer.{Answer}
use Rattle.host.specs.Hosted.{Told, CheckHosted, claim_hosted, open_hosted, offer_hosted, play_hosted, message_hosted, HiddenHosted, ModelHosted}

abbrev Determines : {W : Type 0} → (W → Type 0) → Type 0
Determines {W = W} Promise = (a b : W) → Promise a → Promise b → a ≡ b

-- of each function on the bytes s of a table
pub record Determined (s : List ℕ) : Type 0 where
  pub of_check : Determines (CheckHosted s)
  pub of_claim : Determines (λ (a : Answer). a ≡ claim_hosted (judge s))
  pub of_open : (bytes : List ℕ) → Determines (λ (a : Answer × List ℕ). a ≡ open_hosted (judge s) bytes)
  pub of_offer : (z m : ℕ) (bytes : List ℕ) → Determines (λ (a : Answer × List ℕ). a ≡ offer_hosted (judge s) z m bytes)
  pub of_play : (bytes : List ℕ) → Determines (λ (a : Answer × List ℕ). a ≡ play_hosted (judge s) bytes)
  pub of_message : (bytes : List ℕ) (z : ℕ) (room : List ℕ) → Determines (λ (a : Answer × List ℕ). a ≡ message_hosted (judge s) bytes z room)
  pub of_hidden : (asking moving m : ℕ) → Determines (HiddenHosted (judge s) asking moving m)
  pub of_model : (pos ch room : List ℕ) → Determines (ModelHosted (judge s) pos ch room)

-- what is told of one answer is one
told : (A B : Type 0) (Promise : A → Type 0) (tell : A → B) → Determines Promise → Determines (Told A B Promise tell)
told A B Promise tell d a b p q = p.tells ∙ (ap tell (d p.given q.given p.promised q.promised) ∙ sym q.tells)

either : {W : Type 0} (P Q : W → Type 0) → Determines P → Determines Q → (b : Bool) → Determines (cond b P Q)
either P Q d e true = d
either P Q d e false = e

pub determined : (s : List ℕ) → Determined s
determined s = record {
  of_check = told Refusal Answer _ _ (check_determined s);
  of_claim = λ a b. by_equation;
  of_open = λ bytes a b. by_equation;
  of_offer = λ z m bytes a b. by_equation;
  of_play = λ bytes a b. by_equation;
  of_message = λ bytes z room a b. by_equation;
  of_hidden = λ asking moving m. told Looked Answer _ _ (hidden_determined (judge s) asking moving m);
  of_model = λ pos ch room. either _ _
      (told (Refusal × List ℕ) (Answer × List ℕ) _ _ (model_determined (judge s) pos (from_pairs 8 ch) room))
      (λ a b. by_equation) (eqb (length pos) 512 && eqb (length ch) 16);
}
