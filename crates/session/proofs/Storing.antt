-- Laws of the loops that write a record's parts into a room: what was to be stored is what the room has, with the rest stored further on.
use mathlib.Core.Path.{◌≡◌, refl, sym, ap, ap₂, ◌∙◌}
use mathlib.Core.List.{List, [], ◌∷◌, ◌++◌, append_assoc}
use Prim.Native.Nat.{ℕ, suc, ◌+◌, ◌*◌, ◌/◌, ◌%◌, ◌≤◌, ◌<◌}
use native.Mathlib.Omega.{arith}
use native.Mathlib.Numerals.{add-one, unary_clauses}
use lib.ListN.{length, get_or, take, drop, length-append, length-replicate, drop_of_length-le}
use lib.Seq.{sets, length-sets, sets-eq, length-take-le, take_at, take_all, drop-cons, drop-drop}
use borrow.Rule.Slice.PartMut.{put_mid}
use Rattle.std.specs.Int.{to_le_bytes, w16, w32}
use Rattle.gdl.specs.Flags.{blank}
use Rattle.session.specs.declared.Session.{Session}
use Rattle.session.specs.Bytes.{little_endian, pairs_of, session_bytes}
use Rattle.session.proofs.ByteForm.{pairs_length}

-- ---- a part of a room that is overwritten

-- bytes copied over as many from a place on are stored there
pub stored : (room : List ℕ) (at k : ℕ) (bytes : List ℕ) → length bytes ≡ k → at + k ≤ length room → put_mid at k room bytes ≡ sets room at bytes
stored room at k bytes e le = rw (sets-eq bytes room at (omega arith), drop-drop k at room, ← e) (sym (append_assoc (take at room) bytes (drop (at + length bytes) room)))

-- ---- numbers as bytes

pub four_bytes : (x : ℕ) → to_le_bytes w32 x ≡ little_endian 4 x
four_bytes x =
    let third : x / 65536 % 256 ≡ x / 256 / 256 % 256 = omega arith in
    let fourth : x / 16777216 % 256 ≡ x / 256 / 256 / 256 % 256 = omega arith in
    ap₂ (λ (y z : ℕ). x % 256 ∷ x / 256 % 256 ∷ y ∷ z ∷ []) third fourth

pub record Pairing (room₀ : List ℕ) (at : ℕ) (choices room : List ℕ) (k : ℕ) : Type 0 where
  pub within : k ≤ length choices
  pub long : length room ≡ 2580
  pub left : sets room₀ at (pairs_of choices) ≡ sets room (at + 2 * k) (pairs_of (drop k choices))

module _ (room₀ : List ℕ) (at : ℕ) (choices : List ℕ) where
  pub pairing_starts : length room₀ ≡ 2580 → Pairing room₀ at choices room₀ 0
  pairing_starts e = record { within = omega arith; long = e; left = simp unary_clauses }

  module _ (room : List ℕ) (k : ℕ) (i : Pairing room₀ at choices room k) where
    pub pairing_goes : k < length choices → at + 2 * length choices ≤ 2580 → (m : ℕ) → m ≡ 2 → (pair : List ℕ) → pair ≡ to_le_bytes w16 (get_or choices k 0) → Pairing room₀ at choices (put_mid (at + 2 * k) m room pair) (k + 1)
    pairing_goes h fits m em pair ep =
        let two : length pair ≡ m = ap length ep ∙ sym em in
        let e : put_mid (at + 2 * k) m room pair ≡ sets room (at + 2 * k) (little_endian 2 (get_or choices k 0)) = stored room (at + 2 * k) m pair two (omega (arith, i.long)) ∙ ap (sets room (at + 2 * k)) ep in
        record { within = omega arith; long = ap length e ∙ (length-sets room (at + 2 * k) (little_endian 2 (get_or choices k 0)) ∙ i.long); left = i.left ∙ next (put_mid (at + 2 * k) m room pair) e }
      where
        next : (after : List ℕ) → after ≡ sets room (at + 2 * k) (little_endian 2 (get_or choices k 0)) → sets room (at + 2 * k) (pairs_of (drop k choices)) ≡ sets after (at + 2 * (k + 1)) (pairs_of (drop (k + 1) choices))
        next after e =
            let p : at + 2 * (k + 1) ≡ suc (suc (at + 2 * k)) = omega arith in
            rw (e, p, add-one k, drop-cons choices k 0 h) refl

    pub pairing_ends : length choices ≤ k → room ≡ sets room₀ at (pairs_of choices)
    pairing_ends h = sym (rw (drop_of_length-le choices h) at i.left)

pub ruleset pairings = (pairing_starts, pairing_goes, pairing_ends)

-- ---- the whole record: the first n bytes of the room are written

record Holds (room : List ℕ) (n : ℕ) (done : List ℕ) : Type 0 where
  size : length room ≡ 2580
  first : take n room ≡ done

add : (room : List ℕ) (n : ℕ) (done : List ℕ) → Holds room n done → (part after : List ℕ) (m : ℕ) → after ≡ sets room n part → n + length part ≡ m → m ≤ 2580 → Holds after m (done ++ part)
add room n done h part after m e grown fits =
    let size : length after ≡ 2580 = rw e (length-sets room n part ∙ h.size) in
    let within : n + length part ≤ length room = omega arith in
    let long : length (take n room ++ part) ≡ m = length-append (take n room) part ∙ omega (arith, length-take-le n room (omega arith)) in
    record { size = size; first = rw (e, sets-eq part room n within) (take_at (take n room ++ part) (drop (n + length part) room) m long ∙ rw h.first refl) }

pub all_in : (σ : Session) → length σ.position ≡ 512 → length σ.choices ≡ 8 → length σ.percepts ≡ 2048 → (position room percepts round : List ℕ)
    → position ≡ σ.position → room ≡ sets (put_mid 0 512 (blank 2580) position) 512 (pairs_of σ.choices) → percepts ≡ σ.percepts → round ≡ to_le_bytes w32 σ.round
    → put_mid 2576 4 (put_mid 528 2048 room percepts) round ≡ session_bytes σ
unfolding session_bytes
all_in σ p q s position r₂ percepts round e₁ e₂ e₃ e₄ =
    let two : List ℕ = σ.position ++ pairs_of σ.choices in
    let r₁ : List ℕ = put_mid 0 512 (blank 2580) position in
    let r₃ : List ℕ = put_mid 528 2048 r₂ percepts in
    let blank_long : length (blank 2580) ≡ 2580 = simp length-replicate in
    let position_long : length position ≡ 512 = ap length e₁ ∙ p in
    let percepts_long : length percepts ≡ 2048 = ap length e₃ ∙ s in
    let round_long : length round ≡ 4 = ap length e₄ in
    let h₀ : Holds (blank 2580) 0 [] = record { size = blank_long; first = refl } in
    let h₁ = add (blank 2580) 0 [] h₀ σ.position r₁ 512 (stored (blank 2580) 0 512 position position_long (omega arith) ∙ ap (sets (blank 2580) 0) e₁) (omega arith) (omega arith) in
    let h₂ = add r₁ 512 σ.position h₁ (pairs_of σ.choices) r₂ 528 e₂ (omega (arith, pairs_length σ.choices)) (omega arith) in
    let h₃ = add r₂ 528 two h₂ σ.percepts r₃ 2576 (stored r₂ 528 2048 percepts percepts_long (omega (arith, h₂.size)) ∙ ap (sets r₂ 528) e₃) (omega arith) (omega arith) in
    let h₄ = add r₃ 2576 (two ++ σ.percepts) h₃ (little_endian 4 σ.round) (put_mid 2576 4 r₃ round) 2580 (stored r₃ 2576 4 round round_long (omega (arith, h₃.size)) ∙ ap (sets r₃ 2576) (e₄ ∙ four_bytes σ.round)) (omega arith) (omega arith) in
    sym (take_all 2580 (put_mid 2576 4 r₃ round) (omega (arith, h₄.size))) ∙ h₄.first
