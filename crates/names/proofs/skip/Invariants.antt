-- `names::skip` meets its contract. What is left to pass over from `here` leads where all leads from the start. Assumes nothing.
use mathlib.Core.Path.{◌≡◌}
use Rattle.names.specs.Positions.{position_of, skipped}
use Rattle.names.proofs.skip.Given as goal

abbrev pub invariant-loop-left : goal.invariant-loop-left
invariant-loop-left l = skipped l.left l.m (position_of l.here) ≡ skipped l.count l.m (position_of l.initial.here)

abbrev pub decreases-loop-left : goal.decreases-loop-left
decreases-loop-left l = l.left
