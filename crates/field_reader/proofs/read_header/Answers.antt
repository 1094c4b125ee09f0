-- `field_reader::read_header` meets its contract. Assumes nothing.
use native.Mathlib.Omega.{arith}
use Rattle.field_reader.specs.Cursors.{none, more}
use Rattle.field_reader.proofs.Headers.{header-truncated, header-oversize, header-found}
use Rattle.field_reader.proofs.read_header.Goals as goal

pub returns-then-len-lt-SIZE : goal.returns-then-len-lt-SIZE
returns-then-len-lt-SIZE c = header-truncated c.args.m.now c.if-len-lt-SIZE.true

pub returns-then-len-gt-LONGEST_MESSAGE : goal.returns-then-len-gt-LONGEST_MESSAGE
returns-then-len-gt-LONGEST_MESSAGE c =
    let read = c in
    header-oversize c.if-len-gt-LONGEST_MESSAGE.true (more read.u32_at-id.ensures (more read.u8_at-type_number.ensures none))

pub returns : goal.returns
returns c =
    let read = c in
    header-found (omega arith) (omega arith) (more read.u32_at-id.ensures (more read.u8_at-type_number.ensures none))
