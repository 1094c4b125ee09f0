-- `isolation::list_request_twice` meets its contract: by what each run promises. Assumes nothing.
use Rattle.isolation.proofs.Alone.{wrote-apart, listing-isolated}
use Rattle.isolation.proofs.list_request_twice.Goals as goal

pub returns : goal.returns
returns c = wrote-apart (listing-isolated _) c.list_request-first.ensures.writes c.list_request-second.ensures.writes
