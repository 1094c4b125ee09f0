-- `readdir_writer::are_texts` meets its contract. Assumes nothing.
use native.Mathlib.Omega.{arith}
use Rattle.readdir_writer.proofs.Lengths.{texts-all, texts-end, texts-stop, texts-next, placed-fits}
use Rattle.readdir_writer.proofs.are_texts.Goals as goal

pub loop-i-init : goal.loop-i-init
loop-i-init c = texts-all _ _ c.requires

pub overflow_cast-len : goal.overflow_cast-len
overflow_cast-len c = omega (arith, c.type_inv.lengths c.loop-i.i)

pub overflow_add-end : goal.overflow_add-end
overflow_add-end c = omega (arith, placed-fits c.loop-i.invariant.placed c.loop-i-test.true)

pub slice_bounds-is_text-end : goal.slice_bounds-is_text-end
slice_bounds-is_text-end c = omega (arith, placed-fits c.loop-i.invariant.placed c.loop-i-test.true)

pub returns-then-not-is_text : goal.returns-then-not-is_text
returns-then-not-is_text c = texts-stop c.loop-i.invariant c.loop-i-test.true c.is_text.ensures c.if-not-is_text.true-raw

pub loop-i-preserved : goal.loop-i-preserved
loop-i-preserved c = texts-next c.loop-i.invariant c.loop-i-test.true c.is_text.ensures c.if-not-is_text.false-raw

pub returns : goal.returns
returns c = texts-end c.loop-i.invariant c.loop-i-test.false
