-- The invariant: storing the bytes of what is left gives the whole.
use Rattle.lines.proofs.Pairing.{Decoding}
use Rattle.lines.proofs.hex.write_bytes.Given as goal

abbrev pub invariant-loop-k : goal.invariant-loop-k
invariant-loop-k l = Decoding l.word l.initial.room l.room l.k
