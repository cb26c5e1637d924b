-- Laws of the C functions: one for each return.
use mathlib.Core.Path.{◌≡◌, refl, sym, ap, ◌∙◌}
use mathlib.Core.Bool.{Bool, true, false, cond}
use mathlib.Core.List.{List}
use Prim.Native.Nat.{ℕ}
use lib.ListN.{length}
use lib.Dec.{eqb}
use borrow.Author.Rules.{rules}
use borrow.Author.Tests.{eq-eqb, ne_eqb}
use Rattle.std.proofs.lemmas.Bool.{eqb-true}
use Rattle.std.specs.Prelude.{Option, Some, None}
use Rattle.refusals.specs.declared.Refusal.{Refusal}
use Rattle.refusals.specs.declared.Refusal.TheVariants.{Success}
use Rattle.refusals.specs.Refusal.{number_of}
use Rattle.refusals.proofs.Numbers.{zero_success}
use Rattle.rules.specs.Verdict.{Verdict}
use Rattle.session.specs.declared.Session.{Session}
use Rattle.session.specs.Bytes.{session_bytes, session_of, read_of, from_pairs}
use Rattle.calls.specs.declared.Claimed.{Claimed}
use Rattle.calls.specs.declared.Moved.{Moved}
use Rattle.calls.specs.declared.Sent.{Sent}
use Rattle.calls.specs.Calls.{claim, open_game, offer, play, message}
use Rattle.calls.specs.Promises.{ModelPromise}
use Rattle.host.specs.declared.Answer.{Answer}
use Rattle.host.specs.Hosted.{said, wrong_length, over_record, handed_out, handed_back, claim_hosted, open_hosted, offer_hosted, play_hosted, sent_said, message_hosted, ModelHosted}

pub claim_told : (v : Verdict) (c : Claimed) (a : Answer) → c ≡ claim v → a ≡ said c.refusal c.claim → a ≡ claim_hosted v
unfolding claim_hosted
claim_told v c a e f = f ∙ ap (λ (x : Claimed). said x.refusal x.claim) e

-- ---- the record is handed back

pub refused_back : (m : Moved) (bytes : List ℕ) (r : Refusal) (a : Answer) → (m.refusal ≡ Success → ⊥) → m.refusal ≡ r → a ≡ said r 0
    → ◌≡◌ {A = Answer × List ℕ} (a, bytes) (handed_back m bytes)
unfolding handed_back
refused_back m bytes r a h e f = rw (f, sym e, ne_eqb (number_of m.refusal) 0 (λ q. h (zero_success m.refusal q))) refl

pub done_back : (m : Moved) (bytes : List ℕ) → m.refusal ≡ Success → (x : Answer × List ℕ) → x ≡ handed_out m → x ≡ handed_back m bytes
unfolding handed_out handed_back
done_back m bytes h x f = f ∙ rw h refl

pub handed_out_lem : (m : Moved) (a : Answer) (part after : List ℕ) → a ≡ said m.refusal 0 → part ≡ session_bytes m.session → after ≡ part
    → ◌≡◌ {A = Answer × List ℕ} (a, after) (handed_out m)
unfolding handed_out
handed_out_lem m a part after e f g = rw (e, g, f) refl

-- ---- a call over a record

-- what a test has chosen, by the record that was read
none_chosen : (b : Bool) (σ : Session) (x y : Answer × List ℕ) → ◌≡◌ {A = Option Session} None (cond b (Some σ) None) → y ≡ cond b x y
none_chosen true σ x y e = search rules
none_chosen false σ x y e = refl

one_chosen : (b : Bool) (σ τ : Session) (call : Session → Answer × List ℕ) (y : Answer × List ℕ) → ◌≡◌ {A = Option Session} (Some τ) (cond b (Some σ) None) → call τ ≡ cond b (call σ) y
one_chosen true σ τ call y e = cc
one_chosen false σ τ call y e = search rules

true_chosen : (b : Bool) (σ τ : Session) → ◌≡◌ {A = Option Session} (Some τ) (cond b (Some σ) None) → b ≡ true
true_chosen true σ τ e = refl
true_chosen false σ τ e = search rules

pub record_long : (bytes : List ℕ) (σ : Session) → Some σ ≡ read_of bytes → length bytes ≡ 2580
unfolding read_of
record_long bytes σ e = eqb-true (length bytes) 2580 (true_chosen (eqb (length bytes) 2580) (session_of bytes) σ e)

module _ (bytes room : List ℕ) (call : Session → Answer × List ℕ) where
  pub other_length : (a : Answer) → (length bytes ≡ 2580 → ⊥) → a ≡ wrong_length → ◌≡◌ {A = Answer × List ℕ} (a, room) (over_record bytes room call)
  unfolding over_record
  other_length a h e = rw (ne_eqb (length bytes) 2580 h, e) refl

  right_length : length bytes ≡ 2580 → call (session_of bytes) ≡ over_record bytes room call
  unfolding over_record
  right_length h = rw (eq-eqb (length bytes) 2580 h) refl

  pub no_record : (a : Answer) → None ≡ read_of bytes → a ≡ wrong_length → ◌≡◌ {A = Answer × List ℕ} (a, room) (over_record bytes room call)
  unfolding over_record read_of
  no_record a e f = rw f (none_chosen (eqb (length bytes) 2580) (session_of bytes) (call (session_of bytes)) (wrong_length, room) e)

  a_record : (σ : Session) → Some σ ≡ read_of bytes → call σ ≡ over_record bytes room call
  unfolding over_record read_of
  a_record σ e = one_chosen (eqb (length bytes) 2580) (session_of bytes) σ call (wrong_length, room) e

pub opened : (v : Verdict) (bytes : List ℕ) → length bytes ≡ 2580 → (x : Answer × List ℕ) (m : Moved) → x ≡ handed_out m → m ≡ open_game v → x ≡ open_hosted v bytes
opened v bytes h x m e f = e ∙ (ap handed_out f ∙ right_length bytes bytes (λ σ. handed_out (open_game v)) h)

module _ (v : Verdict) (bytes : List ℕ) (σ : Session) (h : Some σ ≡ read_of bytes) (x : Answer × List ℕ) (m : Moved) (e : x ≡ handed_back m bytes) where
  pub offered : (s c : ℕ) → m ≡ offer v σ s c → x ≡ offer_hosted v s c bytes
  offered s c f = e ∙ (ap (λ (y : Moved). handed_back y bytes) f ∙ a_record bytes bytes (λ y. handed_back (offer v y s c) bytes) σ h)

  pub played : m ≡ play v σ → x ≡ play_hosted v bytes
  played f = e ∙ (ap (λ (y : Moved). handed_back y bytes) f ∙ a_record bytes bytes (λ y. handed_back (play v y) bytes) σ h)

pub messaged : (v : Verdict) (bytes room : List ℕ) (σ : Session) → Some σ ≡ read_of bytes → (s : Sent) (after : List ℕ) (z : ℕ) → (s, after) ≡ message v σ z room
    → (a : Answer) → a ≡ said s.refusal s.length → ◌≡◌ {A = Answer × List ℕ} (a, after) (message_hosted v bytes z room)
messaged v bytes room σ h s after z f a e = rw e (ap sent_said f ∙ a_record bytes room (λ y. sent_said (message v y z room)) σ h)

-- ---- the model call

module _ (v : Verdict) (pos ch room : List ℕ) (a : Answer) where
  pub modelled : length pos ≡ 512 → length ch ≡ 16 → (r : Refusal) (flags chosen after : List ℕ) → flags ≡ pos → chosen ≡ from_pairs 8 ch → a ≡ said r 0
      → ModelPromise v flags chosen room (r, after) → ModelHosted v pos ch room (a, after)
  modelled h g r flags chosen after ef ec e p =
      rw (eq-eqb (length pos) 512 h, eq-eqb (length ch) 16 g) (record { given = (r, after); promised = rw (ef, ec) at p; tells = rw e refl })

pub ruleset hostings = (claim_told, refused_back, done_back, handed_out_lem, record_long, other_length, no_record, opened, offered, played, modelled)
