-- `request_writer::start_run` meets its contract. Assumes nothing.
use native.Mathlib.Omega.{arith}
use Rattle.field_writer.specs.Stored.{none, more}
use Rattle.field_writer.proofs.Storing.{run-within}
use Rattle.message_writer.proofs.Writers.{admitted-within}
use Rattle.request_writer.specs.Asking.{run_size}
use Rattle.request_writer.proofs.Asked.{checked}
use Rattle.request_writer.proofs.start_run.Goals as goal

pub returns : goal.returns
returns c =
    let early = c in
    let a = early.args in
    let size = run_size a.text.now a.numbers in
    let place = early.admit-place.ensures in
    let header = c.put_header-header.ensures in
    let behind = run-within (admitted-within _ size _ place) (more header none) (omega arith) c.put_run.ensures in
    record { is = checked size early.is_text-right.ensures place (more header (more behind none)) }
