-- `shown::checksum::with_byte` meets its contract. Assumes nothing.
use Prim.Native.Nat.{◌+◌}
use native.Mathlib.Nat.{add_assoc}
use Rattle.shown.specs.Checksum.{factor, modulus, with_byte}
use Rattle.shown.proofs.Filling.{reduced}
use Rattle.shown.proofs.checksum.with_byte.Goals as goal

pub returns : goal.returns
unfolding with_byte
returns c = rw (add_assoc, add_assoc) (reduced c.args.h modulus factor (c.args.b + 1))
