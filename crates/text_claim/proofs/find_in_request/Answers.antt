-- `text_claim::find_in_request` meets its contract. Assumes nothing.
use Rattle.layout.specs.Table.{request}
use Rattle.text_claim.proofs.Claims.{cut_fits, finds-text}
use Rattle.text_claim.proofs.find_in_request.Goals as goal

pub slice_bounds-read_request-end : goal.slice_bounds-read_request-end
slice_bounds-read_request-end c =
    let m = c.args.m.now in
    cut_fits request m c.read_request-answer.ensures c.request_place-place.ensures

pub returns : goal.returns
returns c =
    let m = c.args.m.now in
    finds-text request m c.read_request-answer.ensures c.request_place-place.ensures
    c.read_request-cut.ensures c.request_place-start.ensures c.string_from.ensures
