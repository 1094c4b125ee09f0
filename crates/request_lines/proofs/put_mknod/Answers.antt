-- `request_lines::put_mknod` meets its contract. Assumes nothing.
use Rattle.lines.proofs.Adding.{more, none}
use Rattle.request_lines.proofs.put_mknod.Goals as goal

pub returns : goal.returns
returns c =
    let early = c in
    more early.put_number-behind_path.ensures (more early.put_number-behind_mode.ensures (more c.put_number.ensures none))
