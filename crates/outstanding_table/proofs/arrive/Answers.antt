-- `outstanding_table::arrive` meets its contract: what is decided on a copy is what the call comes to, once the record is free.
-- Assumes nothing.
use mathlib.Core.Path.{refl, ap, ◌∙◌}
use Rattle.outstanding.specs.Calls.{performed}
use Rattle.outstanding_decisions.specs.Decisions.{arrival_of}
use Rattle.outstanding_decisions.proofs.Deciding.{performs}
use Rattle.outstanding_table.proofs.arrive.Goals as goal

pub returns : goal.returns
returns c =
    ap (performed (arrival_of c.args.message.now c.decide_arrival-removal.result.answer)) c.put.ensures
    ∙ performs (c.decide_arrival-removal.ensures c.args.records.now refl c.load-table.ensures)
