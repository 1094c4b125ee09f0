-- `shown::checksum::of_records` meets its contract: what is left, behind h, gives the whole. Assumes nothing.
use Prim.Native.Nat.{◌-◌}
use mathlib.Core.Path.{◌≡◌, refl, ◌∙◌}
use native.Mathlib.Omega.{arith}
use lib.ListN.{length, drop}
use borrow.Author.Rules.{rules}
use Rattle.outstanding_records.specs.declared.Record.TheVariants.{Free}
use Rattle.outstanding_records.specs.Words.{record_of, records}
use Rattle.shown.specs.Checksum.{checksum_after, checksum, record_bytes, records_bytes}
use Rattle.shown.proofs.Checksums.{element-turn, elements-done}
use Rattle.shown.proofs.checksum.of_records.Given as goal

abbrev pub invariant-loop-i : goal.invariant-loop-i
invariant-loop-i l = checksum_after l.h (records_bytes (drop l.i (records l.words))) ≡ checksum (records_bytes (records l.words))

abbrev pub decreases-loop-i : goal.decreases-loop-i
decreases-loop-i l = 64 - l.i
