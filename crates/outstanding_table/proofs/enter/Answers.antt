-- `outstanding_table::enter` meets its contract: what is decided on a copy is what the call comes to, once the record is stored.
-- Assumes nothing.
use mathlib.Core.Path.{refl, ap, ◌∙◌}
use Rattle.outstanding.specs.Calls.{performed}
use Rattle.outstanding_decisions.specs.Decisions.{told_of}
use Rattle.outstanding_decisions.proofs.Deciding.{performs}
use Rattle.outstanding_table.proofs.enter.Goals as goal

pub returns : goal.returns
returns c =
    ap (performed (told_of c.decide_entry-entry.result.answer)) c.put.ensures
    ∙ performs (c.decide_entry-entry.ensures c.args.records.now refl c.load-table.ensures)
