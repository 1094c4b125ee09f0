-- `outstanding_bridges::enter` meets its contract. Assumes nothing.
use mathlib.Core.Path.{ap, ◌∙◌}
use mathlib.Core.List.{map}
use Rattle.outstanding_records.specs.declared.Record.{Record}
use Rattle.outstanding.specs.Calls.{Performed, Told}
use Rattle.outstanding_records.specs.Words.{word_of}
use Rattle.outstanding_decisions.specs.Decisions.{told_of}
use Rattle.outstanding_bridges.proofs.enter.Goals as goal

pub returns : goal.returns
returns c = (
  ap told_of c.after_entry.ensures.0 ∙ ap (λ (w : Performed Told Record). w.told) c.enter-answer.ensures,
  c.after_entry.ensures.1 ∙ ap (λ (w : Performed Told Record). map word_of w.table) c.enter-answer.ensures,
)
