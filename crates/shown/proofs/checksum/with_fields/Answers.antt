-- `shown::checksum::with_fields` meets its contract, field by field. Assumes nothing.
use borrow.Author.Rules.{rules}
use Rattle.number.specs.BigEndian.{bytes_of}
use Rattle.shown.proofs.checksum.with_fields.Goals as goal

pub returns : goal.returns
unfolding bytes_of
returns c = rw (c.with_byte-2.ensures, c.with_number.ensures, c.with_byte.ensures)
