-- `request_reader::read_open` meets its contract. Assumes nothing.
use mathlib.Core.Path.{refl}
use borrow.Author.Rules.{rules}
use mir.Syntax.{w32}
use mir.ValLaws.{to_z-of_z}
use Rattle.method.specs.Methods.{of_request}
use Rattle.layout.specs.Table.{plan}
use Rattle.field_reader.specs.Cursors.{none, more}
use Rattle.request_reader.proofs.Answered.{answered}
use Rattle.request_reader.proofs.read_open.Goals as goal

pub returns : goal.returns
unfolding plan of_request
returns c = answered c.finish.ensures refl refl (rw (to_z-of_z w32 c.i32_at-flags.result.value (search rules)) (search (more, none)))
