-- `shown::cases::fill_lengths` meets its contract: the first i numbers are filled, and the length stays. Assumes nothing.
use Prim.Native.Nat.{◌-◌, ◌≤◌}
use mathlib.Core.Path.{◌≡◌}
use lib.ListN.{length, take}
use Rattle.shown.specs.Cases.{listed, filling, number_modulus}
use Rattle.shown.proofs.cases.fill_lengths.Given as goal

abbrev pub invariant-loop-i : goal.invariant-loop-i
invariant-loop-i l = (length l.lengths ≡ length l.initial.lengths) × (l.i ≤ length l.initial.lengths) × (take l.i l.lengths ≡ listed (filling number_modulus) l.i)

abbrev pub decreases-loop-i : goal.decreases-loop-i
decreases-loop-i l = length l.initial.lengths - l.i
