-- `reply_writer::write_getcreds` meets its contract. Assumes nothing.
use mathlib.Core.Path.{refl}
use Rattle.method.specs.Methods.{of_reply}
use Rattle.layout.specs.Table.{plan}
use Rattle.reply_writer.proofs.Replied.{plain-reply}
use Rattle.reply_writer.proofs.write_getcreds.Goals as goal

pub returns : goal.returns
unfolding plan of_reply
returns c =
    let early = c in
    plain-reply _ _ early.args.creds.now (rw (← early.is_text-texts.ensures) early.admit-place.ensures) refl c.finish.ensures early.put_header-header.ensures c.put_run-behind_creds.ensures
