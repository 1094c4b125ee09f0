-- `shown::table::read_record` meets its contract. Assumes nothing.
use borrow.Author.Tests.{ne_eqb}
use Rattle.shown.specs.Cases.{record_in}
use Rattle.shown.proofs.table.read_record.Goals as goal

pub returns-then-byte_at-eq0 : goal.returns-then-byte_at-eq0
unfolding record_in
returns-then-byte_at-eq0 c = rw (← c.byte_at.ensures, c.if-byte_at-eq0.true)

pub returns : goal.returns
unfolding record_in
returns c = rw (← c.byte_at.ensures, ne_eqb c.byte_at.result 0 c.if-byte_at-eq0.false, c.word_at.ensures, c.byte_at-2.ensures)
