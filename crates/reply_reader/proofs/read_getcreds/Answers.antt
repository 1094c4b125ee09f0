-- `reply_reader::read_getcreds` meets its contract. Assumes nothing.
use mathlib.Core.Path.{refl}
use borrow.Author.Tests.{eq-eqb, ne_eqb}
use Rattle.method.specs.Methods.{of_reply}
use Rattle.layout.specs.Table.{plan}
use Rattle.field_reader.specs.Cursors.{none, more}
use Rattle.reply_reader.proofs.Answered.{answered-plain}
use Rattle.reply_reader.proofs.read_getcreds.Goals as goal

pub returns-then-code-ne-NONE : goal.returns-then-code-ne-NONE
unfolding plan of_reply
returns-then-code-ne-NONE c =
    let s = c in
    let d = s.string_at-creds.result.next in
    rw (ne_eqb d.code 0 c.if-code-ne-NONE.true) at (answered-plain s.args.id 0x97 refl (more s.string_at-creds.ensures none))

pub returns : goal.returns
unfolding plan of_reply
returns c =
    let s = c in
    let d = s.string_at-creds.result.next in
    rw (eq-eqb d.code 0 c.if-code-ne-NONE.false) at (answered-plain s.args.id 0x97 refl (more s.string_at-creds.ensures none))
