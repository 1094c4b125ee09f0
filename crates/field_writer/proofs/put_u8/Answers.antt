-- `field_writer::put_u8` meets its contract. Assumes nothing.
use native.Mathlib.Omega.{arith}
use Rattle.number.proofs.BigEndian.{stored-fits}
use Rattle.field_writer.proofs.Storing.{put-stays, number_put, number_short}
use Rattle.field_writer.proofs.put_u8.Goals as goal

pub returns-then-code-ne-NONE : goal.returns-then-code-ne-NONE
returns-then-code-ne-NONE c = put-stays c.args.c c.args.out.now _ c.if-code-ne-NONE.true

pub overflow_add-result : goal.overflow_add-result
overflow_add-result c = let fits = stored-fits (rw c.if-store_u8.true at c.store_u8.ensures) in omega arith

pub returns-then-store_u8 : goal.returns-then-store_u8
returns-then-store_u8 c = number_put c.if-code-ne-NONE.false (rw c.if-store_u8.true at c.store_u8.ensures)

pub returns : goal.returns
returns c = number_short c.if-code-ne-NONE.false (rw c.if-store_u8.false at c.store_u8.ensures)
