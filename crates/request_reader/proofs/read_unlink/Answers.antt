-- `request_reader::read_unlink` meets its contract. Assumes nothing.
use mathlib.Core.Path.{refl}
use Rattle.method.specs.Methods.{of_request}
use Rattle.layout.specs.Table.{plan}
use Rattle.field_reader.specs.Cursors.{none, more}
use Rattle.request_reader.proofs.Answered.{answered}
use Rattle.request_reader.proofs.read_unlink.Goals as goal

pub returns : goal.returns
unfolding plan of_request
returns c = answered c.finish.ensures refl refl (search (more, none))
