-- Laws of the commands that move the record on.
use Prim.Native.Nat.{ℕ}
use mathlib.Core.Path.{◌≡◌, refl}
use mathlib.Core.List.{List}
use lib.ListN.{length}
use borrow.Author.Tests.{eq-eqb, ne_eqb}
use Rattle.std.specs.Prelude.{Result, Ok, Err}
use Rattle.gdl.specs.Flags.{blank}
use Rattle.rules.specs.Verdict.{Verdict}
use Rattle.session.specs.declared.Session.{Session}
use Rattle.session.specs.Bytes.{session_of}
use Rattle.calls.specs.declared.Moved.{Moved}
use Rattle.calls.specs.Calls.{open_game, offer, play}
use Rattle.lines.specs.Words.{words_of}
use Rattle.lines.specs.Hex.{hex_into}
use Rattle.lines.specs.declared.hex.HexFault.{HexFault}
use Rattle.commands.specs.Texts.{puts}
use Rattle.commands.specs.Faults.{hex_fault}
use Rattle.commands.specs.Numbers.{word_at, number_at}
use Rattle.commands.specs.Replies.{ok_texts, record_texts}
use Rattle.commands.specs.declared.fault.Fault.{Fault}
use Rattle.commands.specs.declared.fault.Fault.TheVariants as F
use Rattle.interpreter.specs.Said.{Texts, said}
use Rattle.interpreter.specs.Turns.{turned, wrong, moved_on, open_turn, offer_turn, play_turn, record_set, set_turn, record_turn, Turns}
use Rattle.interpreter.specs.declared.records.Turned.{Turned}

-- what is said and what is current make the answer
pub turns : (t : Texts) (σ : Session) (n : ℕ) (room after : List ℕ) → (n, after) ≡ puts t (0, room) → ◌≡◌ {A = Turned × List ℕ} (record { session = σ; length = n }, after) (turned (record { texts = t; session = σ }) room)
unfolding turned said
turns t σ n room after e = rw (← e) refl

module _ (x : Turned × List ℕ) (room : List ℕ) where
  pub opens : (v : Verdict) (m : Moved) → m ≡ open_game v → x ≡ turned (moved_on m) room → x ≡ turned (open_turn v) room
  opens v m e f = rw (← e) f

  pub plays : (v : Verdict) (σ : Session) (m : Moved) → m ≡ play v σ → x ≡ turned (moved_on m) room → x ≡ turned (play_turn v σ) room
  plays v σ m e f = rw (← e) f

  pub offers : (line : List ℕ) (v : Verdict) (σ : Session) (z c : ℕ) → Ok z ≡ number_at line 1 → Ok c ≡ number_at line 2 → (m : Moved) → m ≡ offer v σ z c → x ≡ turned (moved_on m) room → x ≡ turned (offer_turn line v σ) room
  unfolding offer_turn
  offers line v σ z c ez ec m em k = rw (← ez, ← ec, ← em) k

-- ---- record with its bytes

module _ (w : List ℕ) (σ : Session) (h : Result ℕ HexFault) (bytes : List ℕ) (eh : (h, bytes) ≡ hex_into w (blank 2580)) where
  read : set_turn w σ ≡ record_set (h, bytes) σ
  unfolding set_turn
  read = rw (← eh) refl

  pub set_no_hex : (e : HexFault) → h ≡ Err e → (f : Fault) → f ≡ hex_fault F.RecordBytes e → set_turn w σ ≡ wrong f σ
  set_no_hex e k f g = rw (read, k, g) refl

  pub set_other : (n : ℕ) → h ≡ Ok n → (n ≡ 2580 → ⊥) → set_turn w σ ≡ wrong F.RecordBytes σ
  set_other n k g = rw (read, k, ne_eqb n 2580 g) refl

  pub set_whole : (n : ℕ) → h ≡ Ok n → n ≡ 2580 → (now : Session) → now ≡ session_of bytes → (k : ℕ) (room after : List ℕ) → (k, after) ≡ puts (ok_texts 2580) (0, room)
      → ◌≡◌ {A = Turned × List ℕ} (record { session = now; length = k }, after) (turned (set_turn w σ) room)
  set_whole n e g now f k room after p = rw (read, e, eq-eqb n 2580 g, ← f) (rw g (turns (ok_texts 2580) now k room after p))

module _ (line : List ℕ) (σ : Session) (n : ℕ) (e : n ≡ length (words_of line)) (room : List ℕ) where
  pub sets_record : (n ≡ 1 → ⊥) → (w : List ℕ) → w ≡ word_at line 1 → (r : Result Turned Fault) (after : List ℕ) → Turns (set_turn w σ) σ room r after → Turns (record_turn line σ) σ room r after
  unfolding record_turn
  sets_record h w ew r after f = rw (← e, ne_eqb n 1 h, ← ew) f

  pub record_told : n ≡ 1 → (k : ℕ) (after : List ℕ) → (k, after) ≡ puts (record_texts σ) (0, room) → ◌≡◌ {A = Turned × List ℕ} (record { session = σ; length = k }, after) (turned (record_turn line σ) room)
  unfolding record_turn
  record_told h k after p = rw (← e, eq-eqb n 1 h) (turns (record_texts σ) σ k room after p)

pub ruleset turnings = (turns, opens, plays, offers, set_no_hex, set_other, set_whole, sets_record, record_told)
