-- `reply_writer::put_result` meets its contract. Assumes nothing.
use mir.Syntax.{w32}
use mir.ValLaws.{to_z-of_z}
use borrow.Author.Rules.{rules}
use Rattle.field_writer.specs.Stored.{none, more}
use Rattle.reply_writer.proofs.put_result.Goals as goal

pub returns : goal.returns
returns c =
    let early = c in
    let x = early.args.res in
    rw (← (to_z-of_z w32 x (search rules)))
    (more c.put_header-header.ensures (more c.put_i32.ensures none))
