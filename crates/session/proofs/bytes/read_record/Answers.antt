-- The test on the number of bytes decides whether they are a record.
use borrow.Author.Tests.{eq-eqb, ne_eqb}
use Rattle.session.specs.Bytes.{read_of}
use Rattle.session.proofs.bytes.read_record.Goals as goal

pub returns-then-bytes-eq2580 : goal.returns-then-bytes-eq2580
unfolding read_of
returns-then-bytes-eq2580 c = rw (eq-eqb _ 2580 c.if-bytes-eq2580.true, c.session_of.ensures)

pub returns-else-bytes-eq2580 : goal.returns-else-bytes-eq2580
unfolding read_of
returns-else-bytes-eq2580 c = rw (ne_eqb _ 2580 c.if-bytes-eq2580.false)
