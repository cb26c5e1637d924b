-- The first of 65,535 blank bytes are lent.
use Prim.Native.Nat.{◌<◌}
use native.Mathlib.Omega.{arith}
use Rattle.interpreter.proofs.Looking.{lends_message}
use Rattle.interpreter.proofs.looks.lend_message.Goals as goal

pub returns : goal.returns
returns c =
    let a = c.args in
    let small : a.many < 65536 = omega arith in
    lends_message _ _ _ _ _ small c.from-end.ensures _ _ c.put_message.ensures
