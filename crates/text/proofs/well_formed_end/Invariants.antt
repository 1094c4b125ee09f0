-- `text::well_formed_end` meets its contract. The loop has passed well-formed text up to `at`, and what is left decides the end.
-- Assumes nothing.
use Prim.Native.Nat.{◌-◌}
use lib.ListN.{length}
use Rattle.text.proofs.Decisions.{Passed}
use Rattle.text.proofs.well_formed_end.Given as goal

abbrev pub invariant-loop-at : goal.invariant-loop-at
invariant-loop-at l = Passed l.s l.at

abbrev pub decreases-loop-at : goal.decreases-loop-at
decreases-loop-at l = length l.s - l.at
