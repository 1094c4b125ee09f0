-- `request_lines::put_open` meets its contract. Assumes nothing.
use mir.Syntax.{w32}
use mir.ValLaws.{to_z-of_z}
use Rattle.lines.proofs.Adding.{more, none}
use Rattle.request_lines.proofs.put_open.Goals as goal

pub returns : goal.returns
returns c =
    let early = c in
    let s = early in
    rw (← (to_z-of_z w32 s.args.flags s.ranges.flags))
    (more early.put_number-behind_path.ensures (more c.put_signed.ensures none))
