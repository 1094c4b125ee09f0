-- `number::bits_of_i32` meets its contract. Assumes nothing.
use mathlib.Core.Path.{refl}
use mir.Syntax.{w32}
use Rattle.number.proofs.TwosComplement.{difference-fits, difference-casts, raised-fits, raised_is, kept-casts, kept-is}
use Rattle.number.proofs.bits_of_i32.Goals as goal

pub overflow_sub-result : goal.overflow_sub-result
overflow_sub-result c = difference-fits w32 4 refl 2147483647 refl c.args.x c.ranges.x c.if-x-lt0.true

pub overflow_cast-result : goal.overflow_cast-result
overflow_cast-result c = difference-casts w32 4 refl 2147483647 refl c.args.x c.ranges.x c.if-x-lt0.true

pub overflow_add-result : goal.overflow_add-result
overflow_add-result c = raised-fits w32 4 refl 2147483647 refl c.args.x c.ranges.x c.if-x-lt0.true

pub overflow_cast-result-else-x-lt0 : goal.overflow_cast-result-else-x-lt0
overflow_cast-result-else-x-lt0 c = kept-casts w32 4 refl c.args.x c.ranges.x c.if-x-lt0.false

pub returns-then-x-lt0 : goal.returns-then-x-lt0
returns-then-x-lt0 c = raised_is w32 4 refl 2147483647 refl c.args.x c.ranges.x c.if-x-lt0.true

pub returns-else-x-lt0 : goal.returns-else-x-lt0
returns-else-x-lt0 c = kept-is w32 4 refl c.args.x c.ranges.x c.if-x-lt0.false
