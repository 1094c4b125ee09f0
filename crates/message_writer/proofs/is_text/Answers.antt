-- `message_writer::is_text` meets its contract. Assumes nothing.
use Rattle.text.specs.Utf8.{well_formed}
use Rattle.message_writer.proofs.is_text.Goals as goal

pub returns : goal.returns
unfolding well_formed
returns c = rw c.well_formed_end.ensures
