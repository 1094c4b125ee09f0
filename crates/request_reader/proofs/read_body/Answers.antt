-- `request_reader::read_body` meets its contract: an arm is what its function ensures, and the rest is none of the methods. Assumes nothing.
use Rattle.request_reader.specs.Answers.{answer_at}
use Rattle.request_reader.proofs.Answered.{not_known}
use Rattle.request_reader.proofs.read_body.Goals as goal

pub returns-in-1 : goal.returns-in-1
unfolding answer_at
returns-in-1 c = rw c.in-1.is c.read_access.ensures

pub returns-in-2 : goal.returns-in-2
unfolding answer_at
returns-in-2 c = rw c.in-2.is c.read_getattr.ensures

pub returns-in-3 : goal.returns-in-3
unfolding answer_at
returns-in-3 c = rw c.in-3.is c.read_readlink.ensures

pub returns-in-4 : goal.returns-in-4
unfolding answer_at
returns-in-4 c = rw c.in-4.is c.read_symlink.ensures

pub returns-in-5 : goal.returns-in-5
unfolding answer_at
returns-in-5 c = rw c.in-5.is c.read_link.ensures

pub returns-in-6 : goal.returns-in-6
unfolding answer_at
returns-in-6 c = rw c.in-6.is c.read_rename.ensures

pub returns-in-7 : goal.returns-in-7
unfolding answer_at
returns-in-7 c = rw c.in-7.is c.read_chmod.ensures

pub returns-in-8 : goal.returns-in-8
unfolding answer_at
returns-in-8 c = rw c.in-8.is c.read_chown.ensures

pub returns-in-9 : goal.returns-in-9
unfolding answer_at
returns-in-9 c = rw c.in-9.is c.read_truncate.ensures

pub returns-in-10 : goal.returns-in-10
unfolding answer_at
returns-in-10 c = rw c.in-10.is c.read_fsync.ensures

pub returns-in-11 : goal.returns-in-11
unfolding answer_at
returns-in-11 c = rw c.in-11.is c.read_open.ensures

pub returns-in-12 : goal.returns-in-12
unfolding answer_at
returns-in-12 c = rw c.in-12.is c.read_mknod.ensures

pub returns-in-13 : goal.returns-in-13
unfolding answer_at
returns-in-13 c = rw c.in-13.is c.read_create.ensures

pub returns-in-14 : goal.returns-in-14
unfolding answer_at
returns-in-14 c = rw c.in-14.is c.read_release.ensures

pub returns-in-15 : goal.returns-in-15
unfolding answer_at
returns-in-15 c = rw c.in-15.is c.read_unlink.ensures

pub returns-in-16 : goal.returns-in-16
unfolding answer_at
returns-in-16 c = rw c.in-16.is c.read_read.ensures

pub returns-in-17 : goal.returns-in-17
unfolding answer_at
returns-in-17 c = rw c.in-17.is c.read_write.ensures

pub returns-in-18 : goal.returns-in-18
unfolding answer_at
returns-in-18 c = rw c.in-18.is c.read_mkdir.ensures

pub returns-in-19 : goal.returns-in-19
unfolding answer_at
returns-in-19 c = rw c.in-19.is c.read_readdir.ensures

pub returns-in-20 : goal.returns-in-20
unfolding answer_at
returns-in-20 c = rw c.in-20.is c.read_rmdir.ensures

pub returns-in-21 : goal.returns-in-21
unfolding answer_at
returns-in-21 c = rw c.in-21.is c.read_statfs.ensures

pub returns-in-22 : goal.returns-in-22
unfolding answer_at
returns-in-22 c = rw c.in-22.is c.read_utimens.ensures

pub returns-in-23 : goal.returns-in-23
unfolding answer_at
returns-in-23 c = rw c.in-23.is c.read_getcreds.ensures

pub returns-in_default : goal.returns-in_default
unfolding answer_at
returns-in_default c = let a = c.args in not_known a.m.now a.id a.type_number c.in_default.in_default-own.rest
