-- `structure_writer::put_attributes` meets its contract: the room of all members is tested before the first is stored. Assumes nothing.
use mathlib.Core.Path.{refl}
use Rattle.number.specs.BigEndian.{bytes_of}
use Rattle.field_writer.specs.Stored.{none, more}
use Rattle.field_writer.proofs.Storing.{whole-put}
use Rattle.structure_writer.proofs.put_attributes.Goals as goal

pub returns : goal.returns
unfolding bytes_of
returns c =
    let ctime = c in
    let mtime = ctime in
    let atime = mtime in
    let blocks = atime in
    let size = blocks in
    let rdev = size in
    let gid = rdev in
    let uid = gid in
    let mode = uid in
    let nlink = mode in
    let inode = nlink in
    whole-put _ refl refl inode.room-start.ensures
    (more inode.put_u64-inode.ensures
    (more nlink.put_u64-nlink.ensures
    (more mode.put_u32-mode.ensures
    (more uid.put_u32-uid.ensures
    (more gid.put_u32-gid.ensures
    (more rdev.put_u64-rdev.ensures
    (more size.put_u64-size.ensures
    (more blocks.put_u64-blocks.ensures
    (more atime.put_timestamp-atime.ensures
    (more mtime.put_timestamp-mtime.ensures
    (more ctime.put_timestamp.ensures
    none)))))))))))
