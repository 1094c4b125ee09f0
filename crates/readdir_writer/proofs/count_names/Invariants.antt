-- `readdir_writer::count_names` meets its contract. Assumes nothing.
use Rattle.readdir_writer.proofs.Taking.{names_on}
use Rattle.readdir_writer.proofs.Copying.{CountLeft}
use Rattle.readdir_writer.proofs.count_names.Given as goal

abbrev pub invariant-loop-left : goal.invariant-loop-left
invariant-loop-left l = CountLeft (names_on l.m l.initial.at l.initial.left) (names_on l.m l.at l.left) l.room l.most l.done l.total

abbrev pub decreases-loop-left : goal.decreases-loop-left
decreases-loop-left l = l.left
