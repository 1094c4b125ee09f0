-- `message_writer::admit` meets its contract. Assumes nothing.
use Rattle.message_writer.specs.Writers.{admitted}
use Rattle.message_writer.proofs.admit.Goals as goal

pub returns-then-texts : goal.returns-then-texts
returns-then-texts c = rw c.if-texts.true c.measured.ensures

pub returns : goal.returns
unfolding admitted
returns c = rw c.if-texts.false
