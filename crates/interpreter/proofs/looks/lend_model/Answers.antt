-- The first of 65,535 bytes that are no flag are lent.
use Prim.Native.Nat.{◌<◌}
use native.Mathlib.Omega.{arith}
use Rattle.interpreter.proofs.Looking.{lends_model}
use Rattle.interpreter.proofs.looks.lend_model.Goals as goal

pub returns : goal.returns
returns c =
    let a = c.args in
    let small : a.many < 65536 = omega arith in
    lends_model _ _ _ _ _ small c.from-end.ensures _ _ c.put_model.ensures
