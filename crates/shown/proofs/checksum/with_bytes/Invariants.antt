-- `shown::checksum::with_bytes` meets its contract: what is left, behind the checksum so far, gives the whole. Assumes nothing.
use Prim.Native.Nat.{◌-◌}
use mathlib.Core.Path.{◌≡◌}
use lib.ListN.{length, drop}
use Rattle.shown.specs.Checksum.{checksum_after}
use Rattle.shown.proofs.checksum.with_bytes.Given as goal

abbrev pub invariant-loop-i : goal.invariant-loop-i
invariant-loop-i l = checksum_after l.so_far (drop l.i l.s) ≡ checksum_after l.h l.s

abbrev pub decreases-loop-i : goal.decreases-loop-i
decreases-loop-i l = length l.s - l.i
