-- Laws of the functions that read a record's parts back.
use mathlib.Core.Path.{◌≡◌, refl, sym, ap, ◌∙◌}
use mathlib.Core.List.{List, [], ◌∷◌, append-nil}
use Prim.Native.Nat.{ℕ, zero, suc, ◌+◌, ◌-◌, ◌*◌, ◌≤◌, ◌<◌}
use native.Mathlib.Omega.{arith}
use native.Mathlib.Numerals.{add-one}
use lib.ListN.{length, get_or, set, take, drop, length-set}
use lib.Seq.{sets, sets-eq, drop-cons, drop-length, drop-drop}
use Rattle.gdl.specs.Flags.{blank}
use Rattle.session.specs.declared.Session.{Session}
use Rattle.session.specs.Bytes.{from_little_endian, from_pairs, session_of}
use Rattle.std.specs.Int.{from_le_bytes, w16, w32}
use Rattle.session.proofs.ByteForm.{session_same}

-- ---- numbers of two bytes and of four

pub pair_read : (l : List ℕ) (at : ℕ) → at + 2 ≤ length l → from_le_bytes w16 (get_or l at 0 ∷ get_or l (at + 1) 0 ∷ []) ≡ from_little_endian (take 2 (drop at l))
pair_read l at h =
    let a : at < length l = omega arith in
    let b : suc at < length l = omega arith in
    rw (drop-cons l at 0 a, drop-cons l (suc at) 0 b, add-one at) (omega arith)

pub four_read : (l : List ℕ) (at : ℕ) → at + 4 ≤ length l
    → from_le_bytes w32 (get_or l at 0 ∷ get_or l (at + 1) 0 ∷ get_or l (at + 2) 0 ∷ get_or l (at + 3) 0 ∷ []) ≡ from_little_endian (take 4 (drop at l))
four_read l at h =
    let a : at < length l = omega arith in
    let b : suc at < length l = omega arith in
    let c : suc (suc at) < length l = omega arith in
    let d : suc (suc (suc at)) < length l = omega arith in
    let two : at + 2 ≡ suc (suc at) = omega arith in
    let three : at + 3 ≡ suc (suc (suc at)) = omega arith in
    rw (drop-cons l at 0 a, drop-cons l (suc at) 0 b, drop-cons l (suc (suc at)) 0 c, drop-cons l (suc (suc (suc at))) 0 d, add-one at, two, three) (omega arith)

-- ---- a room that is filled whole

filled : (l vs : List ℕ) → length vs ≡ length l → sets l 0 vs ≡ vs
filled l vs e = let p : 0 + length vs ≡ length l = omega arith in sets-eq vs l 0 (omega arith) ∙ rw (p, drop-length l) (append-nil vs)

-- ---- the choices

pub record Choosing (bytes : List ℕ) (at : ℕ) (choices : List ℕ) (k : ℕ) : Type 0 where
  pub within : k ≤ 8
  pub size : length choices ≡ 8
  pub left : from_pairs 8 (drop at bytes) ≡ sets choices k (from_pairs (8 - k) (drop (at + 2 * k) bytes))

pairs_count : (n : ℕ) (bytes : List ℕ) → length (from_pairs n bytes) ≡ n
pairs_count zero bytes = refl
pairs_count (suc n) bytes = ap suc (pairs_count n (drop 2 bytes))

module _ (bytes : List ℕ) (at : ℕ) (choices : List ℕ) where
  pub choosing_starts : choices ≡ blank 8 → Choosing bytes at choices 0
  choosing_starts e =
      let size : length choices ≡ 8 = rw e refl in
      let all : sets choices 0 (from_pairs 8 (drop at bytes)) ≡ from_pairs 8 (drop at bytes) = filled choices (from_pairs 8 (drop at bytes)) (pairs_count 8 (drop at bytes) ∙ sym size) in
      let p : at + 2 * 0 ≡ at = omega arith in
      record { within = omega arith; size = size; left = rw p (sym all) }

  module _ (k : ℕ) (i : Choosing bytes at choices k) where
    pub choosing_goes : k < 8 → at + 16 ≤ length bytes → (x : ℕ) → x ≡ from_le_bytes w16 (get_or bytes (at + 2 * k) 0 ∷ get_or bytes (at + 2 * k + 1) 0 ∷ []) → Choosing bytes at (set choices k x) (k + 1)
    choosing_goes h fits x ex = record { within = omega arith; size = simp length-set i.size; left = i.left ∙ next }
      where
        e : x ≡ from_little_endian (take 2 (drop (at + 2 * k) bytes))
        e = ex ∙ pair_read bytes (at + 2 * k) (omega arith)

        next : sets choices k (from_pairs (8 - k) (drop (at + 2 * k) bytes)) ≡ sets (set choices k x) (k + 1) (from_pairs (8 - (k + 1)) (drop (at + 2 * (k + 1)) bytes))
        next =
            let n : 8 - k ≡ suc (8 - (k + 1)) = omega arith in
            let p : at + 2 * (k + 1) ≡ at + 2 * k + 2 = omega arith in
            rw (n, p, e, ← drop-drop 2 (at + 2 * k) bytes, add-one k) refl

    pub choosing_ends : 8 ≤ k → choices ≡ from_pairs 8 (drop at bytes)
    choosing_ends h = let n : 8 - k ≡ 0 = omega arith in sym (rw n at i.left)

pub ruleset choosings = (choosing_starts, choosing_goes, choosing_ends)

-- ---- the whole record

pub all_out : (bytes p c s : List ℕ) (r : ℕ) → length bytes ≡ 2580 → p ≡ take 512 bytes → c ≡ from_pairs 8 (drop 512 bytes)
    → s ≡ take 2048 (drop 528 bytes)
    → r ≡ from_le_bytes w32 (get_or bytes 2576 0 ∷ get_or bytes 2577 0 ∷ get_or bytes 2578 0 ∷ get_or bytes 2579 0 ∷ [])
    → ◌≡◌ {A = Session} (record { position = p; choices = c; percepts = s; round = r }) (session_of bytes)
unfolding session_of
all_out bytes p c s r size ep ec es er =
    session_same p (take 512 bytes) c (from_pairs 8 (drop 512 bytes)) s (take 2048 (drop 528 bytes)) r (from_little_endian (take 4 (drop 2576 bytes)))
    ep ec es (er ∙ four_read bytes 2576 (omega arith))
