-- `shown::cases::fill_byte` meets its contract. Assumes nothing.
use Rattle.shown.specs.Cases.{filling, byte_modulus}
use Rattle.shown.proofs.Filling.{reduced}
use Rattle.shown.proofs.cases.fill_byte.Goals as goal

pub returns : goal.returns
unfolding filling
returns c = reduced c.args.i byte_modulus 7 3
