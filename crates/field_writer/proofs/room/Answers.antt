-- `field_writer::room` meets its contract. Assumes nothing.
use native.Mathlib.Omega.{arith}
use Rattle.field_writer.proofs.Storing.{room-refused, room-none, room-found}
use Rattle.field_writer.proofs.room.Goals as goal

pub returns-then-code-ne-NONE : goal.returns-then-code-ne-NONE
returns-then-code-ne-NONE c = let a = c.args in room-refused a.c a.size a.len c.if-code-ne-NONE.true

pub returns-then-len-size : goal.returns-then-len-size
returns-then-len-size c = let a = c.args in room-none a.c a.size a.len c.if-code-ne-NONE.false (omega arith)

pub returns-then-len-size-2 : goal.returns-then-len-size-2
returns-then-len-size-2 c = let a = c.args in room-none a.c a.size a.len c.if-code-ne-NONE.false (omega arith)

pub returns : goal.returns
returns c = let a = c.args in room-found a.c a.size a.len c.if-code-ne-NONE.false (omega arith)
