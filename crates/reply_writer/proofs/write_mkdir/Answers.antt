-- `reply_writer::write_mkdir` meets its contract. Assumes nothing.
use mathlib.Core.Path.{refl}
use mir.Syntax.{w32}
use mir.ValLaws.{to_z-of_z}
use borrow.Author.Rules.{rules}
use Rattle.method.specs.Methods.{of_reply}
use Rattle.layout.specs.Table.{plan}
use Rattle.reply_writer.proofs.write_mkdir.Goals as goal

pub write_result-requires : goal.write_result-requires
unfolding plan of_reply
write_result-requires c = refl

pub returns : goal.returns
returns c =
    let x = c.args.res in
    rw (← (to_z-of_z w32 x (search rules)))
    c.write_result.ensures
