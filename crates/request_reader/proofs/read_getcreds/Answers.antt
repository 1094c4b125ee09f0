-- `request_reader::read_getcreds` meets its contract. Assumes nothing.
use mathlib.Core.Path.{refl}
use Rattle.method.specs.Methods.{of_request}
use Rattle.layout.specs.Table.{plan}
use Rattle.field_reader.specs.Cursors.{none}
use Rattle.request_reader.proofs.Answered.{answered}
use Rattle.request_reader.proofs.read_getcreds.Goals as goal

pub returns : goal.returns
unfolding plan of_request
returns c = answered c.finish.ensures refl refl none
