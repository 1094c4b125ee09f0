-- `request_lines::put_link` meets its contract. Assumes nothing.
use Rattle.lines.proofs.Adding.{more, none}
use Rattle.request_lines.proofs.put_link.Goals as goal

pub returns : goal.returns
returns c = search (more, none)
