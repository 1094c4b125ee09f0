-- `reply_reader::read_read` meets its contract. Assumes nothing.
use mathlib.Core.Path.{refl}
use Rattle.method.specs.Methods.{of_reply}
use Rattle.layout.specs.Table.{plan}
use Rattle.field_reader.specs.Cursors.{none, more}
use Rattle.reply_reader.proofs.Answered.{answered-counted}
use Rattle.reply_reader.proofs.read_read.Goals as goal

pub returns : goal.returns
unfolding plan of_reply
returns c = answered-counted c.finish.ensures refl refl (more c.bytes_at-data.ensures none) c.compared-next.ensures refl
