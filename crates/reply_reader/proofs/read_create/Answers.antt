-- `reply_reader::read_create` meets its contract. Assumes nothing.
use mathlib.Core.Path.{refl}
use Rattle.method.specs.Methods.{of_reply}
use Rattle.layout.specs.Table.{plan}
use Rattle.field_reader.specs.Cursors.{none, more}
use Rattle.reply_reader.proofs.Answered.{answered}
use Rattle.reply_reader.proofs.read_create.Goals as goal

pub returns : goal.returns
unfolding plan of_reply
returns c = answered c.finish.ensures refl refl (more c.u64_at-handle.ensures none)
