-- `field_reader::statistics_at` meets its contract. Assumes nothing.
use Rattle.field_reader.specs.Cursors.{none, more}
use Rattle.field_reader.proofs.statistics_at.Goals as goal

pub returns : goal.returns
returns c = search (more, none) depth 12
