-- `number::i8_of_bits` meets its contract. Assumes nothing.
use mathlib.Core.Path.{refl}
use mir.Syntax.{w8}
use Rattle.number.proofs.TwosComplement.{machine-signed, lowered-fits, lowered_is}
use Rattle.number.proofs.i8_of_bits.Goals as goal

pub overflow_add-result : goal.overflow_add-result
overflow_add-result c = lowered-fits w8 1 refl 127 refl c.args.bits c.ranges.bits c.if-bits-lt128.false

pub returns-then-bits-lt128 : goal.returns-then-bits-lt128
returns-then-bits-lt128 c = machine-signed w8 1 refl c.args.bits c.ranges.bits

pub returns-else-bits-lt128 : goal.returns-else-bits-lt128
returns-else-bits-lt128 c = lowered_is w8 1 refl 127 refl c.args.bits c.ranges.bits c.if-bits-lt128.false
