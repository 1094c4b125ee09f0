-- `round_trip::getcreds_back` meets its contract. Assumes nothing.
use Prim.Native.Nat.{ℕ}
use mathlib.Core.Path.{◌≡◌, sym, subst}
use lib.ListN.{take}
use lib.Seq.{length-take-le}
use Rattle.layout.specs.Table.{reply}
use Rattle.layout.specs.Reading.{read}
use Rattle.message_writer.proofs.Finished.{length-inside}
use Rattle.reply_reader.specs.Answers.{answer_of}
use Rattle.round_trip.proofs.Replies.{getcreds-back}
use Rattle.round_trip.proofs.getcreds_back.Goals as goal

pub slice_bounds-read_reply-end : goal.slice_bounds-read_reply-end
slice_bounds-read_reply-end c = rw c.len.ensures (length-inside _ _ _ _ _ _ _ _ c.write_getcreds-written.ensures)

pub slice_bounds-read_reply-end-2 : goal.slice_bounds-read_reply-end-2
slice_bounds-read_reply-end-2 c = sym (length-take-le _ _ (slice_bounds-read_reply-end c))

pub returns : goal.returns
returns c =
    let written = c in
    let start = written in
    let after = written.write_getcreds-written.new.out in
    let reads = subst (λ (k : ℕ). answer_of (take k after) c.read_reply-answer.result ≡ read reply (take k after)) c.len.ensures c.read_reply-answer.ensures in
    getcreds-back start.args.out.now reads start.args.id start.ranges.id.fits _ written.write_getcreds-written.ensures
