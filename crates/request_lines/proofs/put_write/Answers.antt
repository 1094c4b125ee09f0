-- `request_lines::put_write` meets its contract. Assumes nothing.
use Rattle.lines.proofs.Adding.{more, none}
use Rattle.request_lines.proofs.put_write.Goals as goal

pub returns : goal.returns
returns c =
    let early = c in
    let earlier = early in
    more earlier.put_number-behind_path.ensures (more early.put_number-behind_data.ensures (more early.put_number-behind_offset.ensures (more c.put_number.ensures none)))
