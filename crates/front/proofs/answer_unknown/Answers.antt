-- `front::answer_unknown` meets its contract. Assumes nothing.
use Rattle.front.proofs.Answering.{response-settles}
use Rattle.front.proofs.answer_unknown.Goals as goal

pub returns : goal.returns
returns c = response-settles _ _ c.write_unknown_response-written.ensures c.told.ensures
