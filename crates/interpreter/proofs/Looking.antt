-- Laws of the commands that change nothing: one for each return.
use Prim.Native.Nat.{ℕ, zero, suc, ◌+◌, ◌≤◌, ◌<◌}
use native.Mathlib.Omega.{arith}
use mathlib.Core.Path.{◌≡◌, refl, ap, ◌∙◌}
use mathlib.Core.Bool.{Bool, true, false}
use Rattle.std.specs.Prelude.{Option, Ok, MatchOption, unwrap_or}
use Rattle.std.specs.List.{AllWithin, HoldsAt}
use Rattle.std.proofs.lemmas.Iterator.{index_from_first}
use mathlib.Core.List.{List, [], ◌∷◌}
use lib.Dec.{ltb}
use lib.ListN.{length, take, replicate}
use borrow.Author.Tests.{lt-ltb, le-ltb}
use Rattle.refusals.specs.declared.Refusal.{Refusal}
use Rattle.gdl.specs.Flags.{blank}
use Rattle.rules.specs.Verdict.{Verdict}
use Rattle.session.specs.declared.Session.{Session}
use Rattle.calls.specs.declared.Claimed.{Claimed}
use Rattle.calls.specs.declared.Sent.{Sent}
use Rattle.calls.specs.declared.Looked.{Looked}
use Rattle.calls.specs.Calls.{claim, message}
use Rattle.calls.specs.Promises.{CheckPromise, HiddenPromise, ModelPromise}
use Rattle.commands.specs.Texts.{puts}
use Rattle.commands.specs.Numbers.{word_at, number_at, room_at}
use Rattle.commands.specs.Placing.{placed}
use Rattle.commands.specs.Replies.{refusal_texts, more_texts, bytes_texts}
use Rattle.commands.specs.declared.position.Placed.{Placed}
use Rattle.interpreter.specs.Said.{said, Says}
use Rattle.interpreter.specs.Looks.{CheckSaid, claim_texts, sent_texts, message_texts, looked_texts, HiddenTold, hidden_numbers, HiddenSaid, flags_in, model_texts, no_flags, ModelTold, model_words, ModelSaid}
use Rattle.interpreter.proofs.Saying.{says, says_two, says_three}

-- ---- the flags before the first byte that is none

pub flags_before : (lent : List ℕ) (r : Option ℕ) → MatchOption r (AllWithin (λ (x : ℕ). x ≤ 1) lent 0 (length lent)) (λ i. (i < length lent) × HoldsAt (λ (x : ℕ). 1 < x) lent i × AllWithin (λ (x : ℕ). x ≤ 1) lent 0 i) → length (flags_in lent) ≡ unwrap_or r (length lent)
flags_before lent r first = index_from_first (λ l. length (flags_in l)) (λ (x : ℕ). 1 < x) (λ (x : ℕ). x ≤ 1) refl hit miss lent r first
  where
    hit : (b : ℕ) (bs : List ℕ) → 1 < b → length (flags_in (b ∷ bs)) ≡ 0
    hit b bs h = rw (lt-ltb 1 b h) refl

    miss : (b : ℕ) (bs : List ℕ) → b ≤ 1 → length (flags_in (b ∷ bs)) ≡ length (flags_in bs) + 1
    miss b bs h = rw (le-ltb 1 b h) (omega arith)

-- what stands before it is the flags
flags_first : (lent : List ℕ) → take (length (flags_in lent)) lent ≡ flags_in lent
flags_first [] = refl
flags_first (b ∷ bs) = go (ltb 1 b) refl (flags_first bs)
  where
    go : (t : Bool) → ltb 1 b ≡ t → take (length (flags_in bs)) bs ≡ flags_in bs → take (length (flags_in (b ∷ bs))) (b ∷ bs) ≡ flags_in (b ∷ bs)
    go true e ih = rw e refl
    go false e ih = rw e (ap (λ (l : List ℕ). b ∷ l) ih)

-- ---- the first of many equal bytes

some_of : (b n m : ℕ) → n ≤ m → take n (replicate m b) ≡ replicate n b
some_of b zero m h = refl
some_of b (suc n) zero h = absurd (omega arith)
some_of b (suc n) (suc m) h = ap (λ (l : List ℕ). b ∷ l) (some_of b n m (omega arith))

-- ---- check and claim

module _ (room : List ℕ) (x : ℕ × List ℕ) where
  pub says_check : (table : List ℕ) (r : Refusal) → CheckPromise table r → x ≡ puts (refusal_texts r) (0, room) → Says (CheckSaid table) room x
  says_check table r p e = record { texts = refusal_texts r; meant = record { given = r; promised = p; tells = refl }; puts = says room x (refusal_texts r) e }

  pub says_claim : (v : Verdict) (c : Claimed) → c ≡ claim v → (a : ℕ) (after : List ℕ) → (a, after) ≡ puts (refusal_texts c.refusal) (0, room)
      → (n : ℕ) → n ≡ c.claim → x ≡ puts (more_texts n) (a, after) → x ≡ said (claim_texts (claim v)) room
  unfolding claim_texts
  says_claim v c e a after f n k g = rw (← e) (says_two room x (refusal_texts c.refusal) (more_texts c.claim) a after f (rw k at g))

  -- ---- message

  pub says_sent : (v : Verdict) (σ : Session) (z : ℕ) (lent₀ lent : List ℕ) (s : Sent) → (s, lent) ≡ message v σ z lent₀ → (a : ℕ) (after : List ℕ)
      → (a, after) ≡ puts (refusal_texts s.refusal) (0, room) → (b : ℕ) (later : List ℕ) → (b, later) ≡ puts (more_texts s.length) (a, after)
      → (bytes : List ℕ) → bytes ≡ take s.length lent → x ≡ puts (bytes_texts bytes) (b, later) → x ≡ said (sent_texts (message v σ z lent₀)) room
  unfolding sent_texts
  says_sent v σ z lent₀ lent s e a after f b later g bytes k h =
      rw (← e, ← k) (says_three room x (refusal_texts s.refusal) (more_texts s.length) a after f (bytes_texts bytes) b later g h)

  -- ---- hidden and model

  pub says_looked : (v : Verdict) (asking moving m : ℕ) (l : Looked) → HiddenPromise v asking moving m l → (a : ℕ) (after : List ℕ)
      → (a, after) ≡ puts (refusal_texts l.refusal) (0, room) → (n : ℕ) → n ≡ l.hidden → x ≡ puts (more_texts n) (a, after) → Says (HiddenTold v asking moving m) room x
  unfolding looked_texts
  says_looked v asking moving m l p a after f n k g = record {
    texts = looked_texts l;
    meant = record { given = l; promised = p; tells = refl };
    puts = says_two room x (refusal_texts l.refusal) (more_texts l.hidden) a after f (rw k at g);
  }

  pub says_model : (v : Verdict) (pos ch lent₀ lent : List ℕ) (r : Refusal) → ModelPromise v pos ch lent₀ (r, lent) → (a : ℕ) (after : List ℕ)
      → (a, after) ≡ puts (refusal_texts r) (0, room) → (many : ℕ) (bytes : List ℕ) → many ≡ length (flags_in lent) → bytes ≡ take many lent
      → x ≡ puts (bytes_texts bytes) (a, after) → Says (ModelTold v pos ch lent₀) room x
  unfolding model_texts
  says_model v pos ch lent₀ lent r p a after f many bytes l k g = record {
    texts = model_texts (r, lent);
    meant = record { given = (r, lent); promised = p; tells = refl };
    puts = let e : bytes ≡ flags_in lent = k ∙ rw l (flags_first lent) in rw (← e) (says_two room x (refusal_texts r) (bytes_texts bytes) a after f g);
  }

module _ (room : List ℕ) (x : ℕ × List ℕ) (v : Verdict) (many end : ℕ) (small : many < 65536) (e : end ≡ many) where
  pub lends_message : (σ : Session) (z : ℕ) → x ≡ said (sent_texts (message v σ z (take end (blank 65535)))) room
      → x ≡ said (sent_texts (message v σ z (blank many))) room
  lends_message σ z f = rw (e, some_of 0 many 65535 (omega arith)) at f

  pub lends_model : (pos ch : List ℕ) → Says (ModelTold v pos ch (take end (no_flags 65535))) room x → Says (ModelTold v pos ch (no_flags many)) room x
  lends_model pos ch f = rw (e, some_of 255 many 65535 (omega arith)) at f

-- ---- the words of a line

module _ (room : List ℕ) (x : ℕ × List ℕ) (line : List ℕ) (v : Verdict) where
  pub says_message : (σ : Session) (z many : ℕ) → Ok z ≡ number_at line 1 → Ok many ≡ room_at line 2 → x ≡ said (sent_texts (message v σ z (blank many))) room → Says (λ t. t ≡ message_texts line v σ) room x
  unfolding message_texts
  says_message σ z many ez em k = record { texts = sent_texts (message v σ z (blank many)); meant = rw (← ez, ← em) refl; puts = k }

  pub says_hidden : (p q r : ℕ) → Ok p ≡ number_at line 1 → Ok q ≡ number_at line 2 → Ok r ≡ number_at line 3 → Says (HiddenTold v p q r) room x → Says (HiddenSaid line v) room x
  unfolding hidden_numbers
  says_hidden p q r ep eq er k = rw (← ep, ← eq, ← er) k

  pub says_modelled : (p : Placed) (many : ℕ) → Ok p ≡ placed (word_at line 1) (word_at line 2) → Ok many ≡ room_at line 3 → Says (ModelTold v p.position p.choices (no_flags many)) room x → Says (ModelSaid line v) room x
  unfolding model_words
  says_modelled p many ep em k = rw (← ep, ← em) k

pub ruleset lookings = (says_check, says_claim, says_sent, says_looked, says_model, lends_message, lends_model, says_message, says_hidden, says_modelled)
