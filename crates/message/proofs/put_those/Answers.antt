-- Up to flag i the numbers of the flags passed are written.
use Rattle.message.proofs.Lists.{putting_more, putting_same}
use Rattle.message.proofs.put_those.Goals as goal
use Rattle.message.proofs.put_those.Goals.{then-flag-eq1, else-flag-eq1}

pub loop-i-preserved : goal.loop-i-preserved
loop-i-preserved c =
    elim c.if-flag-eq1.branch [
      | then-flag-eq1 w ↦ rw (w.room-is, w.next-is) (putting_more _ _ _ _ _ _ c.loop-i.invariant c.loop-i-test.true w.if-flag-eq1.true _ _ w.write_number-next.ensures)
      | else-flag-eq1 w ↦ rw (w.room-is, w.next-is) (putting_same _ _ _ _ _ _ c.loop-i.invariant c.loop-i-test.true w.if-flag-eq1.false)
    ]
