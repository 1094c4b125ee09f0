-- `shown::cases::fill` meets its contract: the first i bytes are filled, and the length stays. Assumes nothing.
use Prim.Native.Nat.{◌-◌, ◌≤◌}
use mathlib.Core.Path.{◌≡◌}
use lib.ListN.{length, take}
use Rattle.shown.specs.Cases.{listed, filling, byte_modulus}
use Rattle.shown.proofs.cases.fill.Given as goal

abbrev pub invariant-loop-i : goal.invariant-loop-i
invariant-loop-i l = (length l.s ≡ length l.initial.s) × (l.i ≤ length l.initial.s) × (take l.i l.s ≡ listed (filling byte_modulus) l.i)

abbrev pub decreases-loop-i : goal.decreases-loop-i
decreases-loop-i l = length l.initial.s - l.i
