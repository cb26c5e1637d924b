-- Laws of texts put one after another.
use Prim.Native.Nat.{ℕ}
use mathlib.Core.Path.{◌≡◌, ap, ◌∙◌}
use mathlib.Core.List.{List, [], ◌∷◌, ◌++◌}
use Rattle.numbers.specs.Writing.{written_at}
use Rattle.refusals.specs.Refusal.{number_of, place_of}
use Rattle.refusals.specs.declared.Refusal.{Refusal}
use Rattle.session.specs.Bytes.{session_bytes}
use Rattle.session.specs.declared.Session.{Session}
use Rattle.lines.specs.Decimal.{decimal_text}
use Rattle.lines.specs.Hex.{hex_text}
use Rattle.commands.specs.Texts.{puts}
use Rattle.commands.specs.Replies.{refusal_texts, more_texts, record_texts}

module _ (t : List ℕ) (at : ℕ) (room : List ℕ) (x : ℕ × List ℕ) where
  pub put_one : x ≡ written_at t at room → x ≡ puts (t ∷ []) (at, room)
  unfolding puts
  put_one e = e

  module _ (a : ℕ) (now : List ℕ) (e : (a, now) ≡ written_at t at room) where
    pub put_then : (ts : List (List ℕ)) → x ≡ puts ts (a, now) → x ≡ puts (t ∷ ts) (at, room)
    unfolding puts
    put_then ts f = f ∙ ap (puts ts) e

    pub put_two : (u : List ℕ) → x ≡ written_at u a now → x ≡ puts (t ∷ u ∷ []) (at, room)
    unfolding puts
    put_two u f = put_then (u ∷ []) f

-- texts behind texts
pub puts_behind : (ts us : List (List ℕ)) (p q x : ℕ × List ℕ) → q ≡ puts ts p → x ≡ puts us q → x ≡ puts (ts ++ us) p
unfolding puts
puts_behind [] us p q x e f = rw (← e) f
puts_behind (t ∷ ts) us p q x e f = puts_behind ts us (written_at t p.0 p.1) q x e f

module _ (room : List ℕ) (x : ℕ × List ℕ) where
  pub put_refusal : (r : Refusal) (n p : ℕ) → n ≡ number_of r → p ≡ place_of r → (a : ℕ) (now : List ℕ) → (a, now) ≡ written_at (decimal_text n) 0 room
      → x ≡ puts (more_texts p) (a, now) → x ≡ puts (refusal_texts r) (0, room)
  put_refusal r n p en ep a now e f = put_then (decimal_text (number_of r)) 0 room x a now (rw (← en) e) (more_texts (place_of r)) (rw (← ep) f)

  pub put_session : (σ : Session) (bytes : List ℕ) → bytes ≡ session_bytes σ → x ≡ written_at (hex_text bytes) 0 room → x ≡ puts (record_texts σ) (0, room)
  put_session σ bytes e f = put_one (hex_text (session_bytes σ)) 0 room x (rw (← e) f)

pub ruleset puttings = (put_one, put_two, put_refusal, put_session)
