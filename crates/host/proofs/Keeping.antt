-- A call that does not succeed writes nothing, neither the record nor lent room, and a refused open hands back a blank record: `refused_keep`.
use mathlib.Core.Path.{◌≡◌, refl, ap, ◌∙◌}
use mathlib.Core.Logic.{◌≢◌}
use mathlib.Core.Bool.{Bool, true, false, ◌&&◌, cond}
use mathlib.Core.List.{List}
use Prim.Native.Nat.{ℕ}
use lib.Dec.{eqb}
use lib.ListN.{length}
use borrow.Author.Tests.{ne_eqb}
use Rattle.refusals.specs.declared.Refusal.{Refusal}
use Rattle.refusals.specs.Refusal.{number_of}
use Rattle.rules.specs.Judged.{judge}
use Rattle.session.specs.declared.Session.{Session}
use Rattle.session.specs.Bytes.{session_bytes, session_of, from_pairs}
use Rattle.session.specs.Shape.{blank_session}
use Rattle.calls.specs.declared.Moved.{Moved}
use Rattle.calls.specs.Calls.{open_game, offer, play, truth}
use Rattle.calls.specs.Promises.{ModelPromise}
use Rattle.calls.proofs.Determining.{model_determined}
use Rattle.calls.proofs.Keeping as calls
use Rattle.calls.proofs.Meeting.{model_meets}
use Rattle.host.specs.declared.Answer.{Answer}
use Rattle.host.specs.Hosted.{said, wrong_length, over_record, handed_out, handed_back, open_hosted, offer_hosted, play_hosted, message_hosted, Told, ModelHosted}

-- "On a refusal no byte of lent room changes and the record is the one given": if the number is not 0, the bytes are as before
abbrev Keeps : List ℕ → Answer × List ℕ → Type 0
Keeps bytes a = a.0.number ≢ 0 → a.1 ≡ bytes

-- of each function that is lent bytes to write, on the bytes s of a table
pub record Kept (s : List ℕ) : Type 0 where
  -- "a refused open hands back a blank record"
  pub of_open : (bytes : List ℕ) → (open_hosted (judge s) bytes).0.number ≢ 0 → (open_hosted (judge s) bytes).1 ≡ cond (eqb (length bytes) 2580) (session_bytes blank_session) bytes
  pub of_offer : (z m : ℕ) (bytes : List ℕ) → Keeps bytes (offer_hosted (judge s) z m bytes)
  pub of_play : (bytes : List ℕ) → Keeps bytes (play_hosted (judge s) bytes)
  pub of_message : (bytes : List ℕ) (z : ℕ) (room : List ℕ) → Keeps room (message_hosted (judge s) bytes z room)
  pub of_model : (pos ch room : List ℕ) (a : Answer × List ℕ) → ModelHosted (judge s) pos ch room a → Keeps room a

over : (bytes room : List ℕ) (call : Session → Answer × List ℕ) → Keeps room (call (session_of bytes)) → Keeps room (over_record bytes room call)
unfolding over_record
over bytes room call k = go (eqb (length bytes) 2580)
  where
    go : (b : Bool) → Keeps room (cond b (call (session_of bytes)) (wrong_length, room))
    go true n = k n
    go false n = refl

blank : (s bytes : List ℕ) → (open_hosted (judge s) bytes).0.number ≢ 0 → (open_hosted (judge s) bytes).1 ≡ cond (eqb (length bytes) 2580) (session_bytes blank_session) bytes
unfolding over_record handed_out
blank s bytes = go (eqb (length bytes) 2580)
  where
    go : (b : Bool) → (cond b (handed_out (open_game (judge s))) (wrong_length, bytes)).0.number ≢ 0 → (cond b (handed_out (open_game (judge s))) (wrong_length, bytes)).1 ≡ cond b (session_bytes blank_session) bytes
    go true n = ap session_bytes ((calls.refused_keep (judge s)).of_open (λ q. n (ap number_of q)))
    go false n = refl

back : (m : Moved) (bytes : List ℕ) → Keeps bytes (handed_back m bytes)
unfolding handed_back
back m bytes n = rw (ne_eqb (number_of m.refusal) 0 n) refl

model : (s pos ch room : List ℕ) (p : Refusal × List ℕ) → ModelPromise (judge s) pos ch room p → number_of p.0 ≢ 0 → p.1 ≡ room
model s pos ch room p k n =
    let e : p ≡ truth (judge s) pos ch room = model_determined (judge s) pos ch room p (truth (judge s) pos ch room) k (model_meets s pos ch room) in
    ap (λ (x : Refusal × List ℕ). x.1) e ∙ (calls.refused_keep (judge s)).of_model pos ch room (λ q. n (ap (λ (x : Refusal × List ℕ). number_of x.0) e ∙ ap number_of q))

modelled : (s pos ch room : List ℕ) (a : Answer × List ℕ) (b : Bool)
    → cond b (Told (Refusal × List ℕ) (Answer × List ℕ) (ModelPromise (judge s) pos ch room) (λ p. (said p.0 0, p.1))) (λ x. x ≡ (wrong_length, room)) a → Keeps room a
modelled s pos ch room a true t n =
    ap (λ (x : Answer × List ℕ). x.1) t.tells ∙ model s pos ch room t.given t.promised (λ q. n (ap (λ (x : Answer × List ℕ). x.0.number) t.tells ∙ q))
modelled s pos ch room a false t n = ap (λ (x : Answer × List ℕ). x.1) t

pub refused_keep : (s : List ℕ) → Kept s
refused_keep s = record {
  of_open = blank s;
  of_offer = λ z m bytes. over bytes bytes _ (back (offer (judge s) (session_of bytes) z m) bytes);
  of_play = λ bytes. over bytes bytes _ (back (play (judge s) (session_of bytes)) bytes);
  of_message = λ bytes z room. over bytes room _ (λ n. (calls.refused_keep (judge s)).of_message (session_of bytes) z room (λ q. n (ap number_of q)));
  of_model = λ pos ch room a. modelled s pos (from_pairs 8 ch) room a (eqb (length pos) 512 && eqb (length ch) 16);
}
