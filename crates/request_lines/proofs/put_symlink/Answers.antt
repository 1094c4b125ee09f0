-- `request_lines::put_symlink` meets its contract. Assumes nothing.
use Rattle.lines.proofs.Adding.{more, none}
use Rattle.request_lines.proofs.put_symlink.Goals as goal

pub returns : goal.returns
returns c = search (more, none)
