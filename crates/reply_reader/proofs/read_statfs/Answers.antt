-- `reply_reader::read_statfs` meets its contract. Assumes nothing.
use mathlib.Core.Path.{refl}
use Rattle.method.specs.Methods.{of_reply}
use Rattle.layout.specs.Table.{plan}
use Rattle.reply_reader.proofs.Answered.{answered}
use Rattle.reply_reader.proofs.read_statfs.Goals as goal

pub returns : goal.returns
unfolding plan of_reply
returns c = answered c.finish.ensures refl refl c.statistics_at-statistics.ensures
