-- `exports_reading::tushalets_read_reply` meets its contract. Assumes nothing.
use mathlib.Core.Path.{ap, ◌∙◌}
use Rattle.layout.specs.Table.{reply}
use Rattle.exports.specs.Shown.{reading_of}
use Rattle.exports_reading.proofs.Typed.{same-type}
use Rattle.exports_reading.proofs.tushalets_read_reply.Goals as goal

pub returns : goal.returns
returns c =
    rw (c.type_of-type_number.ensures, c.read_reply-answer.ensures) at (c.reply_reading.ensures c.args.message.now)
    ∙ ap reading_of (same-type reply c.args.message.now)
