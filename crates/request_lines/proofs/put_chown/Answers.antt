-- `request_lines::put_chown` meets its contract. Assumes nothing.
use Rattle.lines.proofs.Adding.{more, none}
use Rattle.request_lines.proofs.put_chown.Goals as goal

pub returns : goal.returns
returns c =
    let early = c in
    more early.put_number-behind_path.ensures (more early.put_number-behind_uid.ensures (more c.put_number.ensures none))
