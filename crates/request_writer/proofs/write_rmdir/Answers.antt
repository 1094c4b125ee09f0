-- `request_writer::write_rmdir` meets its contract. Assumes nothing.
use mathlib.Core.Path.{refl}
use Rattle.method.specs.Methods.{of_request}
use Rattle.layout.specs.Table.{plan}
use Rattle.field_writer.specs.Stored.{done}
use Rattle.request_writer.proofs.Asked.{run-asks}
use Rattle.request_writer.proofs.write_rmdir.Goals as goal

pub returns : goal.returns
unfolding plan of_request
returns c = run-asks _ c.start_run-start.ensures c.finish.ensures refl refl refl refl refl done
