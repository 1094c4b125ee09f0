-- `isolation::front_twice` meets its contract: by what each run promises. Assumes nothing.
use Rattle.isolation.proofs.Alone.{fronted-apart}
use Rattle.isolation.proofs.front_twice.Goals as goal

pub returns : goal.returns
returns c = fronted-apart _ c.front-first.ensures c.front-second.ensures
