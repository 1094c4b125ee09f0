-- `front::answer_invalid` meets its contract. Assumes nothing.
use Rattle.front.proofs.Answering.{invalid-settles}
use Rattle.front.proofs.answer_invalid.Goals as goal

pub returns : goal.returns
returns c =
    let p = c.requires in
    invalid-settles _ _ _ p c.write_failure-written.ensures c.told.ensures
