-- `reply_reader::read_success` meets its contract: an arm is what its function ensures, and nothing is left for the rest. Assumes nothing.
use mathlib.Core.Path.{refl}
use Rattle.method.specs.Methods.{of_reply}
use Rattle.layout.specs.Table.{plan}
use Rattle.field_reader.specs.Cursors.{none}
use Rattle.reply_reader.proofs.Answered.{answered}
use Rattle.reply_reader.proofs.Types.{all-matched}
use Rattle.reply_reader.proofs.read_success.Goals as goal

pub returns-in-129 : goal.returns-in-129
unfolding plan of_reply
returns-in-129 c = rw c.in-129.is (answered c.finish.ensures refl refl none)

pub returns-in-130 : goal.returns-in-130
unfolding plan of_reply
returns-in-130 c = rw c.in-130.is c.read_getattr.ensures

pub returns-in-131 : goal.returns-in-131
unfolding plan of_reply
returns-in-131 c = rw c.in-131.is c.read_readlink.ensures

pub returns-in-132 : goal.returns-in-132
unfolding plan of_reply
returns-in-132 c = rw c.in-132.is (answered c.finish-in-132.ensures refl refl none)

pub returns-in-133 : goal.returns-in-133
unfolding plan of_reply
returns-in-133 c = rw c.in-133.is (answered c.finish-in-133.ensures refl refl none)

pub returns-in-134 : goal.returns-in-134
unfolding plan of_reply
returns-in-134 c = rw c.in-134.is (answered c.finish-in-134.ensures refl refl none)

pub returns-in-135 : goal.returns-in-135
unfolding plan of_reply
returns-in-135 c = rw c.in-135.is (answered c.finish-in-135.ensures refl refl none)

pub returns-in-136 : goal.returns-in-136
unfolding plan of_reply
returns-in-136 c = rw c.in-136.is (answered c.finish-in-136.ensures refl refl none)

pub returns-in-137 : goal.returns-in-137
unfolding plan of_reply
returns-in-137 c = rw c.in-137.is (answered c.finish-in-137.ensures refl refl none)

pub returns-in-138 : goal.returns-in-138
unfolding plan of_reply
returns-in-138 c = rw c.in-138.is (answered c.finish-in-138.ensures refl refl none)

pub returns-in-139 : goal.returns-in-139
unfolding plan of_reply
returns-in-139 c = rw c.in-139.is c.read_open.ensures

pub returns-in-140 : goal.returns-in-140
unfolding plan of_reply
returns-in-140 c = rw c.in-140.is (answered c.finish-in-140.ensures refl refl none)

pub returns-in-141 : goal.returns-in-141
unfolding plan of_reply
returns-in-141 c = rw c.in-141.is c.read_create.ensures

pub returns-in-142 : goal.returns-in-142
unfolding plan of_reply
returns-in-142 c = rw c.in-142.is (answered c.finish-in-142.ensures refl refl none)

pub returns-in-143 : goal.returns-in-143
unfolding plan of_reply
returns-in-143 c = rw c.in-143.is (answered c.finish-in-143.ensures refl refl none)

pub returns-in-144 : goal.returns-in-144
unfolding plan of_reply
returns-in-144 c = rw c.in-144.is c.read_read.ensures

pub returns-in-145 : goal.returns-in-145
unfolding plan of_reply
returns-in-145 c = rw c.in-145.is (answered c.finish-in-145.ensures refl refl none)

pub returns-in-146 : goal.returns-in-146
unfolding plan of_reply
returns-in-146 c = rw c.in-146.is (answered c.finish-in-146.ensures refl refl none)

pub returns-in-147 : goal.returns-in-147
unfolding plan of_reply
returns-in-147 c = rw c.in-147.is c.read_readdir.ensures

pub returns-in-148 : goal.returns-in-148
unfolding plan of_reply
returns-in-148 c = rw c.in-148.is (answered c.finish-in-148.ensures refl refl none)

pub returns-in-149 : goal.returns-in-149
unfolding plan of_reply
returns-in-149 c = rw c.in-149.is c.read_statfs.ensures

pub returns-in-150 : goal.returns-in-150
unfolding plan of_reply
returns-in-150 c = rw c.in-150.is (answered c.finish-in-150.ensures refl refl none)

pub returns-in_default : goal.returns-in_default
unfolding plan of_reply
returns-in_default c = let b = c in absurd (all-matched b.args.type_number b.requires.0 c.in_default.in_default-own.rest)
