-- `request_writer::write_utimens` meets its contract. Assumes nothing.
use mathlib.Core.Path.{refl}
use Rattle.number.specs.BigEndian.{bytes_of}
use Rattle.method.specs.Methods.{of_request}
use Rattle.layout.specs.Table.{plan}
use Rattle.field_writer.specs.Stored.{none, more}
use Rattle.request_writer.proofs.Asked.{pieces-asks}
use Rattle.request_writer.proofs.write_utimens.Goals as goal

pub returns : goal.returns
unfolding plan of_request bytes_of
returns c =
    let early = c in
    let earlier = early in
    pieces-asks _ _ earlier.start_run-start.ensures c.finish.ensures refl refl refl refl refl refl (more early.put_timestamp-behind_atime.ensures (more early.put_timestamp-behind_mtime.ensures (more c.put_u64-behind_handle.ensures none)))
