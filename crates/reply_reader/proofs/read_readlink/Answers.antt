-- `reply_reader::read_readlink` meets its contract. Assumes nothing.
use mathlib.Core.Path.{refl}
use Rattle.method.specs.Methods.{of_reply}
use Rattle.layout.specs.Table.{plan}
use Rattle.field_reader.specs.Cursors.{none, more}
use Rattle.reply_reader.proofs.Answered.{answered}
use Rattle.reply_reader.proofs.read_readlink.Goals as goal

pub returns : goal.returns
unfolding plan of_reply
returns c = answered c.finish.ensures refl refl (more c.string_at-resolved.ensures none)
