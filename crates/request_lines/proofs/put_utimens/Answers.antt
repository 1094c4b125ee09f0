-- `request_lines::put_utimens` meets its contract. Assumes nothing.
use Rattle.lines.proofs.Adding.{more, none, two-more}
use Rattle.request_lines.proofs.put_utimens.Goals as goal

pub returns : goal.returns
returns c =
    let early = c in
    let earlier = early in
    more earlier.put_number-behind_path.ensures
    (two-more early.put_time-behind_atime.ensures
    (two-more early.put_time-behind_mtime.ensures (more c.put_number.ensures none)))
