-- `request_writer::write_read` meets its contract. Assumes nothing.
use mathlib.Core.Path.{refl}
use Rattle.number.specs.BigEndian.{bytes_of}
use Rattle.method.specs.Methods.{of_request}
use Rattle.layout.specs.Table.{plan}
use Rattle.field_writer.specs.Stored.{done, field}
use Rattle.request_writer.proofs.Asked.{run-asks}
use Rattle.request_writer.proofs.write_read.Goals as goal

pub returns : goal.returns
unfolding plan of_request bytes_of
returns c =
    let early = c in
    let earlier = early in
    run-asks _ earlier.start_run-start.ensures c.finish.ensures refl refl refl refl refl (field early.put_u32-behind_buffer_size.ensures (field early.put_u64-behind_offset.ensures (field c.put_u64-behind_handle.ensures done)))
