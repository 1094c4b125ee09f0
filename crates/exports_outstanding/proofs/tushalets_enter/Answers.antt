-- `exports_outstanding::tushalets_enter` meets its contract. Assumes nothing.
use mathlib.Core.Path.{ap, ◌∙◌}
use Rattle.exports_outstanding.specs.Shown.{number_of}
use Rattle.exports_outstanding.proofs.Storing.{stores}
use Rattle.exports_outstanding.proofs.tushalets_enter.Goals as goal

pub returns-clause-value : goal.returns-clause-value
returns-clause-value c = c.number_of.ensures ∙ ap number_of c.enter-entry.ensures.tells

pub returns-clause-records_after : goal.returns-clause-records_after
returns-clause-records_after c = c.put.ensures ∙ stores _ c.enter-entry.ensures
