-- `round_trip::unknown_response_back` meets its contract. Assumes nothing.
use Prim.Native.Nat.{ℕ}
use mathlib.Core.Path.{◌≡◌, sym, subst}
use lib.ListN.{take}
use lib.Seq.{length-take-le}
use Rattle.layout.specs.Table.{reply}
use Rattle.layout.specs.Reading.{read}
use Rattle.message_writer.proofs.Finished.{length-inside}
use Rattle.reply_reader.specs.Answers.{answer_of}
use Rattle.round_trip.proofs.Replies.{unknown-back}
use Rattle.round_trip.proofs.unknown_response_back.Goals as goal

pub slice_bounds-read_reply-end : goal.slice_bounds-read_reply-end
slice_bounds-read_reply-end c = rw c.len.ensures (length-inside _ _ _ _ _ _ _ _ c.write_unknown_response-written.ensures)

pub slice_bounds-read_reply-end-2 : goal.slice_bounds-read_reply-end-2
slice_bounds-read_reply-end-2 c = sym (length-take-le _ _ (slice_bounds-read_reply-end c))

pub returns : goal.returns
returns c =
    let written = c in
    let start = written in
    let after = written.write_unknown_response-written.new.out in
    let reads = subst (λ (k : ℕ). answer_of (take k after) c.read_reply-answer.result ≡ read reply (take k after)) c.len.ensures c.read_reply-answer.ensures in
    unknown-back start.args.out.now reads start.args.id start.ranges.id.fits written.write_unknown_response-written.ensures
