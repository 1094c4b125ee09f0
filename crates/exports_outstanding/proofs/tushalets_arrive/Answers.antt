-- `exports_outstanding::tushalets_arrive` meets its contract. Assumes nothing.
use mathlib.Core.Path.{ap, ◌∙◌}
use Rattle.layout.specs.Front.{type_of}
use Rattle.exports.specs.Shown.{reading_of}
use Rattle.exports_reading.specs.Typed.{typed}
use Rattle.exports_outstanding.specs.Shown.{shown_of}
use Rattle.outstanding_decisions.specs.Decisions.{arrival_of}
use Rattle.outstanding_records.specs.Words.{records}
use Rattle.exports_outstanding.proofs.Storing.{stores, typed-arrival}
use Rattle.exports_outstanding.proofs.tushalets_arrive.Goals as goal

pub returns-clause-value : goal.returns-clause-value
returns-clause-value c =
    let d = c.arrive-removal in
    let m = c.args.message.now in
    c.reading_of.ensures m ∙ ap (λ t. reading_of (typed t (shown_of (arrival_of m d.result.answer)))) c.type_of.ensures ∙ ap (λ t. reading_of (typed (type_of m) (shown_of t))) d.ensures.tells
    ∙ ap reading_of (typed-arrival (records c.args.records.now) m)

pub returns-clause-records_after : goal.returns-clause-records_after
returns-clause-records_after c = c.put.ensures ∙ stores c.args.records.now c.arrive-removal.ensures
