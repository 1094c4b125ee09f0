-- `outstanding_bridges::arrive` meets its contract. Assumes nothing.
use mathlib.Core.Path.{ap, ◌∙◌}
use mathlib.Core.List.{map}
use Rattle.outstanding_records.specs.declared.Record.{Record}
use Rattle.outstanding.specs.Calls.{Performed, Arrival}
use Rattle.outstanding_records.specs.Words.{word_of}
use Rattle.outstanding_decisions.specs.Decisions.{arrival_of}
use Rattle.outstanding_bridges.proofs.arrive.Goals as goal

pub returns : goal.returns
returns c = (
  ap (arrival_of c.args.message.now) c.after_arrival.ensures.0 ∙ ap (λ (w : Performed Arrival Record). w.told) c.arrive-answer.ensures,
  c.after_arrival.ensures.1 ∙ ap (λ (w : Performed Arrival Record). map word_of w.table) c.arrive-answer.ensures,
)
