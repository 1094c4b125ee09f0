-- `request_writer::start_runs` meets its contract. Assumes nothing.
use mathlib.Core.Bool.{◌&&◌}
use mathlib.Core.Path.{ap₂, ◌∙◌}
use native.Mathlib.Omega.{arith}
use Rattle.field_writer.specs.Stored.{none, more}
use Rattle.field_writer.proofs.Storing.{run-within}
use Rattle.message_writer.proofs.Writers.{admitted-within}
use Rattle.request_writer.specs.Asking.{runs_size}
use Rattle.request_writer.proofs.Asked.{checked}
use Rattle.request_writer.proofs.start_runs.Goals as goal

pub returns : goal.returns
returns c =
    let early = c in
    let earlier = early in
    let a = earlier.args in
    let size = runs_size a.text.now a.second.now a.numbers in
    let place = early.admit-place.ensures in
    let within = admitted-within _ size _ place in
    let header = early.put_header-header.ensures in
    let first = run-within within (more header none) (omega arith) c.put_run-behind.ensures in
    let second = run-within within (more header (more first none)) (omega arith) c.put_run.ensures in
    let right = early.both-right.ensures ∙ ap₂ ◌&&◌ early.is_text.ensures early.is_right.ensures in
    record { is = checked size right place (more header (more first (more second none))) }
