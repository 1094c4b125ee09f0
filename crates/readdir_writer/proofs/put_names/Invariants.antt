-- `readdir_writer::put_names` meets its contract. Assumes nothing.
use Prim.Native.Nat.{◌-◌}
use lib.ListN.{length}
use Rattle.readdir_writer.proofs.Lengths.{PutsLeft}
use Rattle.readdir_writer.proofs.put_names.Given as goal

abbrev pub invariant-loop-i : goal.invariant-loop-i
invariant-loop-i l = PutsLeft l.initial.out l.initial.next l.lengths l.names l.out l.next l.i l.at

abbrev pub decreases-loop-i : goal.decreases-loop-i
decreases-loop-i l = length l.lengths - l.i
