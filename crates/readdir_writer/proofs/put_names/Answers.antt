-- `readdir_writer::put_names` meets its contract. Assumes nothing.
use native.Mathlib.Omega.{arith}
use borrow.Author.Rules.{rules}
use Rattle.readdir_writer.proofs.Lengths.{puts-all, puts-end, puts-next, placed-fits}
use Rattle.readdir_writer.proofs.put_names.Goals as goal

pub loop-i-init : goal.loop-i-init
loop-i-init c = puts-all _ _ _ _ c.requires.0 c.requires.1

pub overflow_cast-len : goal.overflow_cast-len
overflow_cast-len c = omega (arith, c.type_inv.lengths c.loop-i.i)

pub overflow_add-end : goal.overflow_add-end
overflow_add-end c = omega (arith, placed-fits c.loop-i.invariant.placed c.loop-i-test.true)

pub slice_bounds-put_run-end : goal.slice_bounds-put_run-end
slice_bounds-put_run-end c = omega (arith, placed-fits c.loop-i.invariant.placed c.loop-i-test.true)

pub loop-i-preserved : goal.loop-i-preserved
loop-i-preserved c =
    let run = c in
    let loop = run in
    puts-next loop.loop-i.invariant loop.loop-i-test.true (search rules) run.put_run-next.ensures

pub returns : goal.returns
returns c = puts-end c.loop-i.invariant c.loop-i-test.false
