-- `examples::longest_name` meets its contract: what is left to meet, with the longest so far, leads to the whole. Assumes nothing.
use mathlib.Core.Path.{◌≡◌}
use Rattle.layout.specs.Names.{steps}
use Rattle.names.specs.Positions.{position_of}
use Rattle.examples.specs.Longest.{longest, longest_name}
use Rattle.examples.proofs.longest_name.Given as goal

abbrev pub invariant-loop-left : goal.invariant-loop-left
invariant-loop-left l = longest l.message l.longest (steps l.left l.message (position_of l.position)) ≡ longest_name l.message

abbrev pub decreases-loop-left : goal.decreases-loop-left
decreases-loop-left l = l.left
