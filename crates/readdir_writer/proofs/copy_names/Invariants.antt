-- `readdir_writer::copy_names` meets its contract. Assumes nothing.
use Rattle.readdir_writer.proofs.Taking.{names_on}
use Rattle.readdir_writer.proofs.Copying.{CopyLeft}
use Rattle.readdir_writer.proofs.copy_names.Given as goal

abbrev pub invariant-loop-left : goal.invariant-loop-left
invariant-loop-left l = CopyLeft l.m (names_on l.m l.initial.at l.initial.left) (names_on l.m l.at l.left) l.initial.run l.initial.lengths l.run l.lengths l.behind l.done

abbrev pub decreases-loop-left : goal.decreases-loop-left
decreases-loop-left l = l.left
