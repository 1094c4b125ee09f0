-- `request_lines::put_rename` meets its contract. Assumes nothing.
use Rattle.lines.proofs.Adding.{more, none}
use Rattle.request_lines.proofs.put_rename.Goals as goal

pub returns : goal.returns
returns c =
    let early = c in
    more early.put_number-behind_old_path.ensures (more early.put_number-behind_new_path.ensures (more c.put_number.ensures none))
