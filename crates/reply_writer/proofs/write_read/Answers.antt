-- `reply_writer::write_read` meets its contract. Assumes nothing.
use mathlib.Core.Path.{refl}
use mir.Syntax.{w32}
use mir.ValLaws.{to_z-of_z}
use borrow.Author.Rules.{rules}
use Rattle.method.specs.Methods.{of_reply}
use Rattle.layout.specs.Table.{plan}
use Rattle.reply_writer.proofs.Replied.{run-reply}
use Rattle.reply_writer.proofs.write_read.Goals as goal

pub returns : goal.returns
unfolding plan of_reply
returns c =
    let early = c in
    let x = early.args.res in
    rw (← (to_z-of_z w32 x (search rules)))
    (run-reply early.args.«data».now (record { is = rw (← early.admit-place.ensures) early.put_result-start.ensures }) c.finish.ensures refl refl refl early.result_counts-counted.ensures c.put_run-behind_data.ensures)
