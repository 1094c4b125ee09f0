-- `shown::checksum::of_numbers` meets its contract: what is left, behind h, gives the whole. Assumes nothing.
use Prim.Native.Nat.{◌-◌}
use mathlib.Core.Path.{◌≡◌, refl, ◌∙◌}
use lib.ListN.{length, drop}
use borrow.Author.Rules.{rules}
use Rattle.number.specs.BigEndian.{bytes_of}
use Rattle.shown.specs.Checksum.{checksum_after, checksum, numbers_bytes}
use Rattle.shown.proofs.Checksums.{element-turn, elements-done}
use Rattle.shown.proofs.checksum.of_numbers.Given as goal

abbrev pub invariant-loop-i : goal.invariant-loop-i
invariant-loop-i l = checksum_after l.h (numbers_bytes (drop l.i l.numbers)) ≡ checksum (numbers_bytes l.numbers)

abbrev pub decreases-loop-i : goal.decreases-loop-i
decreases-loop-i l = length l.numbers - l.i
