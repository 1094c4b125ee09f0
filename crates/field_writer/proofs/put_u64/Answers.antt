-- `field_writer::put_u64` meets its contract. Assumes nothing.
use native.Mathlib.Omega.{arith}
use Rattle.number.proofs.BigEndian.{stored-fits}
use Rattle.field_writer.proofs.Storing.{put-stays, number_put, number_short}
use Rattle.field_writer.proofs.put_u64.Goals as goal

pub returns-then-code-ne-NONE : goal.returns-then-code-ne-NONE
returns-then-code-ne-NONE c = put-stays c.args.c c.args.out.now _ c.if-code-ne-NONE.true

pub overflow_add-result : goal.overflow_add-result
overflow_add-result c = let fits = stored-fits (rw c.if-store_u64.true at c.store_u64.ensures) in omega arith

pub returns-then-store_u64 : goal.returns-then-store_u64
returns-then-store_u64 c = number_put c.if-code-ne-NONE.false (rw c.if-store_u64.true at c.store_u64.ensures)

pub returns : goal.returns
returns c = number_short c.if-code-ne-NONE.false (rw c.if-store_u64.false at c.store_u64.ensures)
