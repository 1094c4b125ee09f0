-- `front::answer_refused` meets its contract. Assumes nothing.
use mathlib.Core.Path.{refl}
use Rattle.layout.proofs.Fronting.{invalid-type}
use Rattle.field_reader.proofs.Headers.{id-read}
use Rattle.front.proofs.Answering.{header_refused, header-whole, oversize-answered, invalid-answered}
use Rattle.front.proofs.answer_refused.Goals as goal

pub returns-then-number-eq-TRUNCATED_HEADER : goal.returns-then-number-eq-TRUNCATED_HEADER
returns-then-number-eq-TRUNCATED_HEADER c = header_refused _ _ c.requires c.if-number-eq-TRUNCATED_HEADER.true refl

pub returns-then-number-eq-OVERSIZE : goal.returns-then-number-eq-OVERSIZE
returns-then-number-eq-OVERSIZE c =
    let read = c in
    let long = read in
    let pre = long.requires in
    oversize-answered _ _ pre c.if-number-eq-OVERSIZE.true
    (rw (← (id-read read.read_header.ensures (header-whole _ pre long.if-number-eq-TRUNCATED_HEADER.false))) c.answer_unknown.ensures)

pub answer_invalid-requires : goal.answer_invalid-requires
answer_invalid-requires c =
    let read = c in
    let long = read in
    rw read.read_header.ensures.type (invalid-type _ long.requires.is long.if-number-eq-TRUNCATED_HEADER.false c.if-number-eq-OVERSIZE.false).fields

pub returns : goal.returns
returns c =
    let read = c in
    let long = read in
    let pre = long.requires in
    invalid-answered _ _ pre long.if-number-eq-TRUNCATED_HEADER.false c.if-number-eq-OVERSIZE.false
    (rw (← (id-read read.read_header.ensures (header-whole _ pre long.if-number-eq-TRUNCATED_HEADER.false)), ← read.read_header.ensures.type) c.answer_invalid.ensures)
