-- `names::open` meets its contract. Assumes nothing.
use mathlib.Core.Path.{ap, ◌∙◌}
use Rattle.layout.specs.Names.{opened}
use Rattle.names.specs.Positions.{opened_by}
use Rattle.names.proofs.open.Goals as goal

pub returns : goal.returns
unfolding opened
returns c = c.open_answer.ensures _ ∙ ap opened_by c.read_reply-answer.ensures
