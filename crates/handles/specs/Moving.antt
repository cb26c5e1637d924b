-- "The session record is one thing that each call moves on": the answer of a call and the record that it leaves.
use Rattle.refusals.specs.declared.Refusal.{Refusal}
use Rattle.session.specs.declared.Session.{Session}
use Rattle.calls.specs.declared.Moved.{Moved}

-- of an answer by value: the refusal is what the call answers, and the session what the record then is
abbrev pub leaves : Moved → Refusal × Session
leaves m = (m.refusal, m.session)
