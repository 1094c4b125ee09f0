-- `number::i32_of_bits` meets its contract. Assumes nothing.
use mathlib.Core.Path.{refl}
use mir.Syntax.{w32}
use Rattle.number.proofs.TwosComplement.{machine-signed, lowered-fits, lowered_is}
use Rattle.number.proofs.i32_of_bits.Goals as goal

pub overflow_add-result : goal.overflow_add-result
overflow_add-result c = lowered-fits w32 4 refl 2147483647 refl c.args.bits c.ranges.bits c.if-bits-lt2147483648.false

pub returns-then-bits-lt2147483648 : goal.returns-then-bits-lt2147483648
returns-then-bits-lt2147483648 c = machine-signed w32 4 refl c.args.bits c.ranges.bits

pub returns-else-bits-lt2147483648 : goal.returns-else-bits-lt2147483648
returns-else-bits-lt2147483648 c = lowered_is w32 4 refl 2147483647 refl c.args.bits c.ranges.bits c.if-bits-lt2147483648.false
