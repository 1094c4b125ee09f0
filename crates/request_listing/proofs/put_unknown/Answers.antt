-- `request_listing::put_unknown` meets its contract. Assumes nothing.
use Rattle.lines.proofs.Adding.{more, none}
use Rattle.request_listing.proofs.put_unknown.Goals as goal

pub returns : goal.returns
returns c = search (more, none)
