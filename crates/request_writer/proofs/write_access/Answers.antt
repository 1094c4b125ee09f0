-- `request_writer::write_access` meets its contract. Assumes nothing.
use mathlib.Core.Path.{refl}
use mir.Syntax.{w8}
use mir.ValLaws.{to_z-of_z}
use borrow.Author.Rules.{rules}
use Rattle.number.specs.BigEndian.{bytes_of}
use Rattle.method.specs.Methods.{of_request}
use Rattle.layout.specs.Table.{plan}
use Rattle.field_writer.specs.Stored.{done, field}
use Rattle.request_writer.proofs.Asked.{run-asks}
use Rattle.request_writer.proofs.write_access.Goals as goal

pub returns : goal.returns
unfolding plan of_request bytes_of
returns c =
    let early = c in
    let x = early.args.mode in
    run-asks _ early.start_run-start.ensures c.finish.ensures refl refl refl refl refl (field (rw (← (to_z-of_z w8 x (search rules))) c.put_i8-behind_mode.ensures) done)
