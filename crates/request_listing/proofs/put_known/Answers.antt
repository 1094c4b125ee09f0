-- `request_listing::put_known` meets its contract. Assumes nothing.
use Rattle.lines.proofs.Adding.{more, none, lines_then}
use Rattle.request_listing.proofs.Rendering.{named}
use Rattle.request_listing.proofs.put_known.Goals as goal

pub returns : goal.returns
returns c =
    let early = c in
    lines_then
    (named (rw early.method.ensures at early.put_name-behind_name.ensures) early.put_number-behind_first.ensures)
    (lines_then c.put_fields-behind_fields.ensures (more c.put_closing.ensures none))
