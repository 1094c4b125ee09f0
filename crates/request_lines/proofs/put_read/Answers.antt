-- `request_lines::put_read` meets its contract. Assumes nothing.
use Rattle.lines.proofs.Adding.{more, none}
use Rattle.request_lines.proofs.put_read.Goals as goal

pub returns : goal.returns
returns c =
    let early = c in
    let earlier = early in
    more earlier.put_number-behind_path.ensures (more early.put_number-behind_buffer_size.ensures (more early.put_number-behind_offset.ensures (more c.put_number.ensures none)))
