-- `reply_reader::read_getattr` meets its contract. Assumes nothing.
use mathlib.Core.Path.{refl}
use Rattle.method.specs.Methods.{of_reply}
use Rattle.layout.specs.Table.{plan}
use Rattle.reply_reader.proofs.Answered.{answered}
use Rattle.reply_reader.proofs.read_getattr.Goals as goal

pub returns : goal.returns
unfolding plan of_reply
returns c = answered c.finish.ensures refl refl c.attributes_at-attributes.ensures
