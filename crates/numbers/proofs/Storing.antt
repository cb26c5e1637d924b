-- A part of a room written anew is a run of stores.
use mathlib.Core.Path.{◌≡◌, refl, sym, ◌∙◌}
use mathlib.Core.List.{List, append_assoc}
use Prim.Native.Nat.{ℕ, ◌+◌, ◌≤◌}
use native.Mathlib.Omega.{arith}
use borrow.Rule.Slice.PartMut.{put_mid, mid_of}
use lib.ListN.{length, drop, replicate, length-replicate}
use Rattle.std.proofs.lemmas.List.{length-take-le, length-drop}
use Rattle.std.proofs.lemmas.List.Edits.{sets, sets-eq, paste_all}
use Rattle.std.proofs.lemmas.Slice.{put_mid-paste}

pub put_mid-sets : (at k : ℕ) (room part bs : List ℕ) → part ≡ bs → length bs ≡ k → at + k ≤ length room → put_mid at k room part ≡ sets room at bs
put_mid-sets at k room part bs e l h =
    let fits : at + length bs ≤ length room = rw l h in
    put_mid-paste at k room part bs (length bs) e l refl ∙ paste_all room at bs (length bs) refl ∙ sym (simp append_assoc at (sets-eq bs room at fits))

-- the part all one value
pub put_mid-replicate : (at k n v : ℕ) (room part : List ℕ) → part ≡ replicate (length (mid_of at k room)) v → k ≡ n → at + n ≤ length room
    → put_mid at k room part ≡ sets room at (replicate n v)
put_mid-replicate at k n v room part e f h =
    let fits : k ≤ length (drop at room) = rw length-drop (omega arith) in
    let m : length (mid_of at k room) ≡ n = length-take-le k (drop at room) fits ∙ f in
    put_mid-sets at k room part (replicate n v) (rw m at e) (length-replicate n v ∙ sym f) (omega arith)

pub ruleset stores = (put_mid-sets, put_mid-replicate)
