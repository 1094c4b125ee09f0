-- `exports_reading::tushalets_read_request` meets its contract. Assumes nothing.
use mathlib.Core.Path.{ap, ◌∙◌}
use Rattle.layout.specs.Table.{request}
use Rattle.exports.specs.Shown.{reading_of}
use Rattle.exports_reading.proofs.Typed.{same-type}
use Rattle.exports_reading.proofs.tushalets_read_request.Goals as goal

pub returns : goal.returns
returns c =
    rw (c.type_of-type_number.ensures, c.read_request-answer.ensures) at c.request_reading.ensures
    ∙ ap reading_of (same-type request c.args.message.now)
