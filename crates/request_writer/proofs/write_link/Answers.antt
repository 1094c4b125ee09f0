-- `request_writer::write_link` meets its contract. Assumes nothing.
use mathlib.Core.Path.{refl}
use Rattle.method.specs.Methods.{of_request}
use Rattle.layout.specs.Table.{plan}
use Rattle.field_writer.specs.Stored.{done}
use Rattle.request_writer.proofs.Asked.{two-asks}
use Rattle.request_writer.proofs.write_link.Goals as goal

pub returns : goal.returns
unfolding plan of_request
returns c = two-asks _ c.start_runs-start.ensures c.finish.ensures refl refl refl refl refl refl done
