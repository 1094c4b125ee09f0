-- `number::bits_of_i8` meets its contract. Assumes nothing.
use mathlib.Core.Path.{refl}
use mir.Syntax.{w8}
use Rattle.number.proofs.TwosComplement.{difference-fits, difference-casts, raised-fits, raised_is, kept-casts, kept-is}
use Rattle.number.proofs.bits_of_i8.Goals as goal

pub overflow_sub-result : goal.overflow_sub-result
overflow_sub-result c = difference-fits w8 1 refl 127 refl c.args.x c.ranges.x c.if-x-lt0.true

pub overflow_cast-result : goal.overflow_cast-result
overflow_cast-result c = difference-casts w8 1 refl 127 refl c.args.x c.ranges.x c.if-x-lt0.true

pub overflow_add-result : goal.overflow_add-result
overflow_add-result c = raised-fits w8 1 refl 127 refl c.args.x c.ranges.x c.if-x-lt0.true

pub overflow_cast-result-else-x-lt0 : goal.overflow_cast-result-else-x-lt0
overflow_cast-result-else-x-lt0 c = kept-casts w8 1 refl c.args.x c.ranges.x c.if-x-lt0.false

pub returns-then-x-lt0 : goal.returns-then-x-lt0
returns-then-x-lt0 c = raised_is w8 1 refl 127 refl c.args.x c.ranges.x c.if-x-lt0.true

pub returns-else-x-lt0 : goal.returns-else-x-lt0
returns-else-x-lt0 c = kept-is w8 1 refl c.args.x c.ranges.x c.if-x-lt0.false
