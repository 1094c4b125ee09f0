-- `field_reader::timestamp_at` meets its contract. Assumes nothing.
use Rattle.field_reader.specs.Cursors.{none, more}
use Rattle.field_reader.proofs.timestamp_at.Goals as goal

pub returns : goal.returns
returns c = search (more, none)
