-- Each part is stored where the one before ends, and the last ends with the room.
use mathlib.Core.Path.{◌∙◌}
use Prim.Native.Nat.{◌≤◌}
use native.Mathlib.Omega.{arith}
use borrow.Author.Rules.{rules}
use borrow.Rule.Slice.PartMut.{put_mid, same_len_mid}
use lib.ListN.{length}
use Rattle.session.proofs.Storing.{all_in}
use Rattle.session.proofs.bytes.to_bytes.Goals as goal

pub slice_bounds-room-end-3 : goal.slice_bounds-room-end-3
slice_bounds-room-end-3 c =
    let room = c.write_choices.new.room in
    let percepts = c.copy_from_slice-2.new.self in
    let within : 2580 ≤ length (put_mid 528 2048 room percepts) = omega (arith, same_len_mid 528 2048 room percepts c.copy_from_slice-2.auto.self) in
    within

pub returns : goal.returns
returns c = all_in _ (search rules) (search rules) (search rules) _ _ _ _ c.copy_from_slice.ensures.after c.write_choices.ensures c.copy_from_slice-2.ensures.after
    (c.copy_from_slice-3.ensures.after ∙ c.to_le_bytes.ensures)
