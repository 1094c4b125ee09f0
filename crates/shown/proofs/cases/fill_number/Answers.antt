-- `shown::cases::fill_number` meets its contract. Assumes nothing.
use Rattle.shown.specs.Cases.{filling, number_modulus}
use Rattle.shown.proofs.Filling.{reduced}
use Rattle.shown.proofs.cases.fill_number.Goals as goal

pub returns : goal.returns
unfolding filling
returns c = reduced c.args.i number_modulus 7 3
