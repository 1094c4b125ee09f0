-- `field_reader::attributes_at` meets its contract. Assumes nothing.
use Rattle.field_reader.specs.Cursors.{more}
use Rattle.field_reader.proofs.Cursors.{two-more}
use Rattle.field_reader.proofs.attributes_at.Goals as goal

pub returns : goal.returns
returns c =
    let ctime = c in
    let mtime = ctime in
    let atime = mtime in
    let blocks = atime in
    let size = blocks in
    let rdev = size in
    let gid = rdev in
    let uid = gid in
    let mode = uid in
    let nlink = mode in
    let inode = nlink in
    more inode.u64_at-inode.ensures
    (more nlink.u64_at-nlink.ensures
    (more mode.u32_at-mode.ensures
    (more uid.u32_at-uid.ensures
    (more gid.u32_at-gid.ensures
    (more rdev.u64_at-rdev.ensures
    (more size.u64_at-size.ensures
    (more blocks.u64_at-blocks.ensures
    (two-more atime.timestamp_at-atime.ensures (two-more mtime.timestamp_at-mtime.ensures ctime.timestamp_at-ctime.ensures)))))))))
