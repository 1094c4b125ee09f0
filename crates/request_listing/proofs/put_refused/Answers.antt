-- `request_listing::put_refused` meets its contract. Assumes nothing.
use Rattle.lines.proofs.Adding.{more, none}
use Rattle.request_listing.proofs.put_refused.Goals as goal

pub returns : goal.returns
returns c = search (more, none)
