-- `isolation::write_getcreds_twice` meets its contract: by what each run promises. Assumes nothing.
use Rattle.layout.proofs.Isolating.{write-isolated}
use Rattle.isolation.proofs.Alone.{wrote-apart}
use Rattle.isolation.proofs.write_getcreds_twice.Goals as goal

pub returns : goal.returns
returns c = wrote-apart (write-isolated _ _ _ _ _ _) c.write_getcreds-first.ensures c.write_getcreds-second.ensures
