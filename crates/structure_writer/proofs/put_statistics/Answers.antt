-- `structure_writer::put_statistics` meets its contract: the room of all members is tested before the first is stored. Assumes nothing.
use mathlib.Core.Path.{refl}
use Rattle.number.specs.BigEndian.{bytes_of}
use Rattle.field_writer.specs.Stored.{none, more}
use Rattle.field_writer.proofs.Storing.{whole-put}
use Rattle.structure_writer.proofs.put_statistics.Goals as goal

pub returns : goal.returns
unfolding bytes_of
returns c =
    let namemax = c in
    let ffree = namemax in
    let files = ffree in
    let bavail = files in
    let bfree = bavail in
    let blocks = bfree in
    let frsize = blocks in
    let bsize = frsize in
    whole-put _ refl refl bsize.room-start.ensures
    (more bsize.put_u64-bsize.ensures
    (more frsize.put_u64-frsize.ensures
    (more blocks.put_u64-blocks.ensures
    (more bfree.put_u64-bfree.ensures
    (more bavail.put_u64-bavail.ensures
    (more files.put_u64-files.ensures
    (more ffree.put_u64-ffree.ensures
    (more namemax.put_u64.ensures
    none))))))))
