-- `round_trip::reply_back` meets its contract. Assumes nothing.
use Prim.Native.Nat.{ℕ}
use mathlib.Core.Path.{◌≡◌, sym, subst}
use lib.ListN.{take}
use lib.Seq.{length-take-le}
use mir.Syntax.{w32}
use mir.ValLaws.{to_z-of_z}
use Rattle.layout.specs.Table.{reply}
use Rattle.layout.specs.Reading.{read}
use Rattle.message_writer.proofs.Finished.{length-inside}
use Rattle.reply_reader.specs.Answers.{answer_of}
use Rattle.round_trip.proofs.Fitting.{reply-fits}
use Rattle.round_trip.proofs.Replies.{success-back}
use Rattle.round_trip.proofs.reply_back.Goals as goal

pub slice_bounds-read_reply-end : goal.slice_bounds-read_reply-end
slice_bounds-read_reply-end c = rw c.len.ensures (length-inside _ _ _ _ _ _ _ _ c.write_reply-written.ensures)

pub slice_bounds-read_reply-end-2 : goal.slice_bounds-read_reply-end-2
slice_bounds-read_reply-end-2 c = sym (length-take-le _ _ (slice_bounds-read_reply-end c))

pub returns : goal.returns
returns c =
    let written = c in
    let start = written in
    let after = written.write_reply-written.new.out in
    let reads = subst (λ (k : ℕ). answer_of (take k after) c.read_reply-answer.result ≡ read reply (take k after)) c.len.ensures c.read_reply-answer.ensures in
    let q = start.args.reply in
    let m = start.args.message.now in
    success-back start.args.out.now reads start.args.id start.ranges.id.fits m start.args.res q (reply-fits m q _ c.well_formed.1.1.0 start.ranges.res.sfits) (rw (to_z-of_z w32 start.args.res start.ranges.res) at written.write_reply-written.ensures)
