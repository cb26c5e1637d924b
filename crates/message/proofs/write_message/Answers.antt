-- The head and three counted lists make the message.
use mathlib.Core.Path.{◌≡◌}
use mathlib.Core.Bool.{cond}
use borrow.Author.Rules.{rules}
use Rattle.message.proofs.Lists.{parts_written}
use Rattle.message.proofs.write_message.Goals as goal
use Rattle.message.proofs.write_message.Goals.{then-sheet, else-sheet, then-sheet-2, else-sheet-2}

pub returns : goal.returns
returns c =
    let m = c.args.sheet in
    let moves : c.if-sheet.moves ≡ cond m.over 0 m.moves = elim c.if-sheet.branch [
      | then-sheet w ↦ rw (w.if-sheet.true, w.moves-is)
      | else-sheet w ↦ rw (w.if-sheet.false, w.moves-is)
    ] in
    let values : c.if-sheet-2.values ≡ cond m.over 101 0 = elim c.if-sheet-2.branch [
      | then-sheet-2 w ↦ rw (w.if-sheet-2.true, w.values-is)
      | else-sheet-2 w ↦ rw (w.if-sheet-2.false, w.values-is)
    ] in
    parts_written m _ _ _ c.requires (search rules) (search rules) (search rules) _ _ _ _ (cc) c.from.ensures (cc) values _ _ _ _ _ _ _ _ _ c.put_head-a.ensures c.put_counted-b.ensures c.put_counted-c.ensures c.put_counted.ensures
