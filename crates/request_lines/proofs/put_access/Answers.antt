-- `request_lines::put_access` meets its contract. Assumes nothing.
use Rattle.lines.proofs.Adding.{more, none}
use Rattle.request_lines.proofs.Widening.{widened_is}
use Rattle.request_lines.proofs.put_access.Goals as goal

pub returns : goal.returns
returns c =
    let early = c in
    rw (← (widened_is early.ranges.mode))
    (more early.put_number-behind_path.ensures (more c.put_signed.ensures none))
