-- `exports_replies::write_success` meets its contract: in each arm the type is known, and what is written is what its function
-- ensures. Assumes nothing.
use mir.Syntax.{w32}
use mir.ValLaws.{to_z-of_z}
use Rattle.method.specs.Methods.{of_reply}
use Rattle.layout.specs.Table.{plan}
use Rattle.layout.specs.Writing.{write_names}
use Rattle.exports.specs.Given.{success_by}
use Rattle.exports_replies.proofs.NoSuchType.{no-success}
use Rattle.exports_replies.proofs.write_success.Goals as goal

pub returns-in-129 : goal.returns-in-129
unfolding success_by plan of_reply write_names
returns-in-129 c = let early = c in rw c.in-129.is (rw (to_z-of_z w32 early.args.res early.ranges.res) at c.write_access.ensures)

pub returns-in-130 : goal.returns-in-130
unfolding success_by plan of_reply write_names
returns-in-130 c = let early = c in rw c.in-130.is (rw (to_z-of_z w32 early.args.res early.ranges.res, c.attributes_of.ensures) at c.write_getattr.ensures)

pub returns-in-131 : goal.returns-in-131
unfolding success_by plan of_reply write_names
returns-in-131 c = let early = c in rw c.in-131.is (rw (to_z-of_z w32 early.args.res early.ranges.res) at c.write_readlink.ensures)

pub returns-in-132 : goal.returns-in-132
unfolding success_by plan of_reply write_names
returns-in-132 c = let early = c in rw c.in-132.is (rw (to_z-of_z w32 early.args.res early.ranges.res) at c.write_symlink.ensures)

pub returns-in-133 : goal.returns-in-133
unfolding success_by plan of_reply write_names
returns-in-133 c = let early = c in rw c.in-133.is (rw (to_z-of_z w32 early.args.res early.ranges.res) at c.write_link.ensures)

pub returns-in-134 : goal.returns-in-134
unfolding success_by plan of_reply write_names
returns-in-134 c = let early = c in rw c.in-134.is (rw (to_z-of_z w32 early.args.res early.ranges.res) at c.write_rename.ensures)

pub returns-in-135 : goal.returns-in-135
unfolding success_by plan of_reply write_names
returns-in-135 c = let early = c in rw c.in-135.is (rw (to_z-of_z w32 early.args.res early.ranges.res) at c.write_chmod.ensures)

pub returns-in-136 : goal.returns-in-136
unfolding success_by plan of_reply write_names
returns-in-136 c = let early = c in rw c.in-136.is (rw (to_z-of_z w32 early.args.res early.ranges.res) at c.write_chown.ensures)

pub returns-in-137 : goal.returns-in-137
unfolding success_by plan of_reply write_names
returns-in-137 c = let early = c in rw c.in-137.is (rw (to_z-of_z w32 early.args.res early.ranges.res) at c.write_truncate.ensures)

pub returns-in-138 : goal.returns-in-138
unfolding success_by plan of_reply write_names
returns-in-138 c = let early = c in rw c.in-138.is (rw (to_z-of_z w32 early.args.res early.ranges.res) at c.write_fsync.ensures)

pub returns-in-139 : goal.returns-in-139
unfolding success_by plan of_reply write_names
returns-in-139 c = let early = c in rw c.in-139.is (rw (to_z-of_z w32 early.args.res early.ranges.res) at c.write_open.ensures)

pub returns-in-140 : goal.returns-in-140
unfolding success_by plan of_reply write_names
returns-in-140 c = let early = c in rw c.in-140.is (rw (to_z-of_z w32 early.args.res early.ranges.res) at c.write_mknod.ensures)

pub returns-in-141 : goal.returns-in-141
unfolding success_by plan of_reply write_names
returns-in-141 c = let early = c in rw c.in-141.is (rw (to_z-of_z w32 early.args.res early.ranges.res) at c.write_create.ensures)

pub returns-in-142 : goal.returns-in-142
unfolding success_by plan of_reply write_names
returns-in-142 c = let early = c in rw c.in-142.is (rw (to_z-of_z w32 early.args.res early.ranges.res) at c.write_release.ensures)

pub returns-in-143 : goal.returns-in-143
unfolding success_by plan of_reply write_names
returns-in-143 c = let early = c in rw c.in-143.is (rw (to_z-of_z w32 early.args.res early.ranges.res) at c.write_unlink.ensures)

pub returns-in-144 : goal.returns-in-144
unfolding success_by plan of_reply write_names
returns-in-144 c = let early = c in rw c.in-144.is (rw (to_z-of_z w32 early.args.res early.ranges.res) at c.write_read.ensures)

pub returns-in-145 : goal.returns-in-145
unfolding success_by plan of_reply write_names
returns-in-145 c = let early = c in rw c.in-145.is (rw (to_z-of_z w32 early.args.res early.ranges.res) at c.write_write.ensures)

pub returns-in-146 : goal.returns-in-146
unfolding success_by plan of_reply write_names
returns-in-146 c = let early = c in rw c.in-146.is (rw (to_z-of_z w32 early.args.res early.ranges.res) at c.write_mkdir.ensures)

pub returns-in-147 : goal.returns-in-147
unfolding success_by plan of_reply write_names
returns-in-147 c = let early = c in rw c.in-147.is (rw (to_z-of_z w32 early.args.res early.ranges.res) at c.write_readdir.ensures)

pub returns-in-148 : goal.returns-in-148
unfolding success_by plan of_reply write_names
returns-in-148 c = let early = c in rw c.in-148.is (rw (to_z-of_z w32 early.args.res early.ranges.res) at c.write_rmdir.ensures)

pub returns-in-149 : goal.returns-in-149
unfolding success_by plan of_reply write_names
returns-in-149 c = let early = c in rw c.in-149.is (rw (to_z-of_z w32 early.args.res early.ranges.res, c.statistics_of.ensures) at c.write_statfs.ensures)

pub returns-in-150 : goal.returns-in-150
unfolding success_by plan of_reply write_names
returns-in-150 c = let early = c in rw c.in-150.is (rw (to_z-of_z w32 early.args.res early.ranges.res) at c.write_utimens.ensures)

pub returns-in-151 : goal.returns-in-151
unfolding success_by plan of_reply write_names
returns-in-151 c = rw c.in-151.is c.write_getcreds.ensures

pub returns-in_default : goal.returns-in_default
unfolding success_by plan of_reply write_names
returns-in_default c = rw c.unexpected.ensures (no-success _ _ _ _ _ _ _ c.in_default.in_default-own.rest)
