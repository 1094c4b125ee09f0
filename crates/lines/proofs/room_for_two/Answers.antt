-- `lines::room_for_two` meets its contract. Assumes nothing.
use native.Mathlib.Omega.{arith}
use Rattle.lines.proofs.Entries.{room-two, room-two-none}
use Rattle.lines.proofs.room_for_two.Goals as goal

pub returns-then-code-ne-NONE : goal.returns-then-code-ne-NONE
returns-then-code-ne-NONE c = room-two-none c.room-start.ensures c.args.first c.if-code-ne-NONE.true

pub overflow_sub-len : goal.overflow_sub-len
overflow_sub-len c = let fits = c.room-start.ensures.fits c.if-code-ne-NONE.false in omega arith

pub returns : goal.returns
returns c = room-two c.room-start.ensures c.if-code-ne-NONE.false c.room.ensures
