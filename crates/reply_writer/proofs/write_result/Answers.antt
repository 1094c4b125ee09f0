-- `reply_writer::write_result` meets its contract. Assumes nothing.
use mathlib.Core.Path.{refl}
use mir.Syntax.{w32}
use mir.ValLaws.{to_z-of_z}
use borrow.Author.Rules.{rules}
use Rattle.field_writer.specs.Stored.{done}
use Rattle.reply_writer.proofs.Replied.{numbers-reply}
use Rattle.reply_writer.proofs.write_result.Goals as goal

pub returns : goal.returns
returns c =
    let x = c.args.res in
    rw (← (to_z-of_z w32 x (search rules)))
    (numbers-reply _ c.start-start.ensures c.finish.ensures c.requires refl refl done)
