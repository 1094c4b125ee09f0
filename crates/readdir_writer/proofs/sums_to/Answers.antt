-- `readdir_writer::sums_to` meets its contract. Assumes nothing.
use native.Mathlib.Omega.{arith}
use Rattle.readdir_writer.proofs.Lengths.{left-all, left-short, left-next, left_end}
use Rattle.readdir_writer.proofs.sums_to.Goals as goal

pub loop-i-init : goal.loop-i-init
loop-i-init c = left-all _ _

pub overflow_cast-len : goal.overflow_cast-len
overflow_cast-len c = omega (arith, c.type_inv.lengths c.loop-i.i)

pub returns-then-left-len : goal.returns-then-left-len
returns-then-left-len c = left-short c.loop-i.invariant c.loop-i-test.true (omega arith)

pub loop-i-preserved : goal.loop-i-preserved
loop-i-preserved c = left-next c.loop-i.invariant c.loop-i-test.true (omega arith)

pub returns : goal.returns
returns c = left_end c.loop-i.invariant (omega arith)
