-- `request_lines::put_truncate` meets its contract. Assumes nothing.
use Rattle.lines.proofs.Adding.{more, none}
use Rattle.request_lines.proofs.put_truncate.Goals as goal

pub returns : goal.returns
returns c =
    let early = c in
    more early.put_number-behind_path.ensures (more early.put_number-behind_size.ensures (more c.put_number.ensures none))
