-- `structure_writer::put_timestamp` meets its contract: the room of all members is tested before the first is stored. Assumes nothing.
use mathlib.Core.Path.{refl}
use Rattle.number.specs.BigEndian.{bytes_of}
use Rattle.field_writer.specs.Stored.{none, more}
use Rattle.field_writer.proofs.Storing.{whole-put}
use Rattle.structure_writer.proofs.put_timestamp.Goals as goal

pub returns : goal.returns
unfolding bytes_of
returns c =
    let nsec = c in
    let seconds = nsec in
    whole-put _ refl refl seconds.room-start.ensures
    (more seconds.put_u64-seconds.ensures
    (more nsec.put_u32.ensures
    none))
