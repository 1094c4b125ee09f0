-- `reply_writer::write_statfs` meets its contract. Assumes nothing.
use mathlib.Core.Path.{refl}
use mir.Syntax.{w32}
use mir.ValLaws.{to_z-of_z}
use borrow.Author.Rules.{rules}
use Rattle.number.specs.BigEndian.{bytes_of}
use Rattle.method.specs.Methods.{of_reply}
use Rattle.layout.specs.Table.{plan}
use Rattle.reply_writer.proofs.Replied.{group-reply}
use Rattle.reply_writer.proofs.write_statfs.Goals as goal

pub returns : goal.returns
unfolding plan of_reply bytes_of
returns c =
    let early = c in
    let x = early.args.res in
    rw (← (to_z-of_z w32 x (search rules)))
    (group-reply _ early.start-start.ensures c.finish.ensures refl refl refl c.put_statistics-behind_statistics.ensures)
