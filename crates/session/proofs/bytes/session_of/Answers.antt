-- Each field is its part of the bytes.
use Rattle.session.proofs.Recalling.{all_out}
use Rattle.session.proofs.bytes.session_of.Goals as goal

pub returns : goal.returns
returns c = all_out _ _ _ _ _ c.requires c.copy_from_slice.ensures.after c.read_choices-choices.ensures c.copy_from_slice-2.ensures.after c.from_le_bytes-round.ensures
