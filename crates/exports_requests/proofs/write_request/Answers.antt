-- `exports_requests::write_request` meets its contract: in each arm the type is known, and what is written is what its function
-- ensures. Assumes nothing.
use borrow.Author.Rules.{rules}
use mir.Syntax.{w8, w32}
use mir.ValLaws.{to_z-of_z}
use Rattle.method.specs.Methods.{of_request}
use Rattle.layout.specs.Table.{plan}
use Rattle.exports.specs.Given.{request_by}
use Rattle.exports_requests.proofs.NoSuchType.{no-request}
use Rattle.exports_requests.proofs.write_request.Goals as goal

pub returns-in-1 : goal.returns-in-1
unfolding request_by plan of_request
returns-in-1 c = rw c.in-1.is (rw (to_z-of_z w8 c.low_i8.result (search rules), c.low_i8.ensures) at c.write_access.ensures)

pub returns-in-2 : goal.returns-in-2
unfolding request_by plan of_request
returns-in-2 c = rw c.in-2.is c.write_getattr.ensures

pub returns-in-3 : goal.returns-in-3
unfolding request_by plan of_request
returns-in-3 c = rw c.in-3.is c.write_readlink.ensures

pub returns-in-4 : goal.returns-in-4
unfolding request_by plan of_request
returns-in-4 c = rw c.in-4.is c.write_symlink.ensures

pub returns-in-5 : goal.returns-in-5
unfolding request_by plan of_request
returns-in-5 c = rw c.in-5.is c.write_link.ensures

pub returns-in-6 : goal.returns-in-6
unfolding request_by plan of_request
returns-in-6 c = rw c.in-6.is (rw c.low_u8.ensures at c.write_rename.ensures)

pub returns-in-7 : goal.returns-in-7
unfolding request_by plan of_request
returns-in-7 c = rw c.in-7.is (rw c.low_u32.ensures at c.write_chmod.ensures)

pub returns-in-8 : goal.returns-in-8
unfolding request_by plan of_request
returns-in-8 c = let early = c in rw early.in-8.is (rw (c.low_u32-in-8-2.ensures, c.low_u32-in-8.ensures) at c.write_chown.ensures)

pub returns-in-9 : goal.returns-in-9
unfolding request_by plan of_request
returns-in-9 c = rw c.in-9.is c.write_truncate.ensures

pub returns-in-10 : goal.returns-in-10
unfolding request_by plan of_request
returns-in-10 c = let early = c in rw early.in-10.is (rw c.is_set.ensures at c.write_fsync.ensures)

pub returns-in-11 : goal.returns-in-11
unfolding request_by plan of_request
returns-in-11 c = rw c.in-11.is (rw (to_z-of_z w32 c.low_i32.result (search rules), c.low_i32.ensures) at c.write_open.ensures)

pub returns-in-12 : goal.returns-in-12
unfolding request_by plan of_request
returns-in-12 c = let early = c in rw early.in-12.is (rw c.low_u32-in-12.ensures at c.write_mknod.ensures)

pub returns-in-13 : goal.returns-in-13
unfolding request_by plan of_request
returns-in-13 c = rw c.in-13.is (rw c.low_u32-in-13.ensures at c.write_create.ensures)

pub returns-in-14 : goal.returns-in-14
unfolding request_by plan of_request
returns-in-14 c = rw c.in-14.is c.write_release.ensures

pub returns-in-15 : goal.returns-in-15
unfolding request_by plan of_request
returns-in-15 c = rw c.in-15.is c.write_unlink.ensures

pub returns-in-16 : goal.returns-in-16
unfolding request_by plan of_request
returns-in-16 c = let early = c in rw early.in-16.is (rw c.low_u32-in-16.ensures at c.write_read.ensures)

pub returns-in-17 : goal.returns-in-17
unfolding request_by plan of_request
returns-in-17 c = rw c.in-17.is c.write_write.ensures

pub returns-in-18 : goal.returns-in-18
unfolding request_by plan of_request
returns-in-18 c = rw c.in-18.is (rw c.low_u32-in-18.ensures at c.write_mkdir.ensures)

pub returns-in-19 : goal.returns-in-19
unfolding request_by plan of_request
returns-in-19 c = rw c.in-19.is c.write_readdir.ensures

pub returns-in-20 : goal.returns-in-20
unfolding request_by plan of_request
returns-in-20 c = rw c.in-20.is c.write_rmdir.ensures

pub returns-in-21 : goal.returns-in-21
unfolding request_by plan of_request
returns-in-21 c = rw c.in-21.is c.write_statfs.ensures

pub returns-in-22 : goal.returns-in-22
unfolding request_by plan of_request
returns-in-22 c = let early = c in rw early.in-22.is (rw (c.timestamp-mtime.ensures, early.timestamp-atime.ensures) at c.write_utimens.ensures)

pub returns-in-23 : goal.returns-in-23
unfolding request_by plan of_request
returns-in-23 c = rw c.in-23.is c.write_getcreds.ensures

pub returns-in_default : goal.returns-in_default
unfolding request_by plan of_request
returns-in_default c = rw c.unexpected.ensures (no-request _ _ _ _ _ _ c.in_default.in_default-own.rest)
