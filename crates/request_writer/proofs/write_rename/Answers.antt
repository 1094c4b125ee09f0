-- `request_writer::write_rename` meets its contract. Assumes nothing.
use mathlib.Core.Path.{refl}
use Rattle.number.specs.BigEndian.{bytes_of}
use Rattle.method.specs.Methods.{of_request}
use Rattle.layout.specs.Table.{plan}
use Rattle.field_writer.specs.Stored.{done, field}
use Rattle.request_writer.proofs.Asked.{two-asks}
use Rattle.request_writer.proofs.write_rename.Goals as goal

pub returns : goal.returns
unfolding plan of_request bytes_of
returns c =
    let early = c in
    two-asks _ early.start_runs-start.ensures c.finish.ensures refl refl refl refl refl refl (field c.put_u8-behind_flags.ensures done)
