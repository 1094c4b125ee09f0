-- `round_trip::unknown_request_back` meets its contract. Assumes nothing.
use Prim.Native.Nat.{ℕ}
use mathlib.Core.Path.{◌≡◌, sym, subst}
use lib.ListN.{take}
use lib.Seq.{length-take-le}
use Rattle.layout.specs.Table.{request}
use Rattle.layout.specs.Reading.{read}
use Rattle.message_writer.proofs.Finished.{length-inside}
use Rattle.request_reader.specs.Answers.{answer_of}
use Rattle.round_trip.proofs.Requests.{unknown-back}
use Rattle.round_trip.proofs.unknown_request_back.Goals as goal

pub slice_bounds-read_request-end : goal.slice_bounds-read_request-end
slice_bounds-read_request-end c = rw c.len.ensures (length-inside _ _ _ _ _ _ _ _ c.write_unknown-written.ensures)

pub slice_bounds-read_request-end-2 : goal.slice_bounds-read_request-end-2
slice_bounds-read_request-end-2 c = sym (length-take-le _ _ (slice_bounds-read_request-end c))

pub returns : goal.returns
returns c =
    let written = c in
    let start = written in
    let reads = subst (λ (k : ℕ). answer_of c.read_request-answer.result ≡ read request (take k written.write_unknown-written.new.out)) c.len.ensures c.read_request-answer.ensures in
    unknown-back _ reads _ _ start.ranges.id.fits start.ranges.type_number.fits written.write_unknown-written.ensures
