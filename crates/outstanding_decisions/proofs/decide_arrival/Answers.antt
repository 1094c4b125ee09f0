-- `outstanding_decisions::decide_arrival` meets its contract. Assumes nothing.
use mathlib.Core.Path.{refl, sym, ◌∙◌, ap}
use Rattle.layout.specs.Table.{reply}
use Rattle.layout.specs.Reading.{read}
use Rattle.outstanding.proofs.Cases.{other-size, arrive-unsound}
use Rattle.outstanding_decisions.specs.Decisions.{arrival_of}
use Rattle.outstanding_decisions.proofs.Deciding.{stops}
use Rattle.outstanding_decisions.proofs.decide_arrival.Goals as goal

pub returns-then-len-ne-SIZE : goal.returns-then-len-ne-SIZE
returns-then-len-ne-SIZE c l size copied =
    let a = c.args in
    let m = a.message.now in
    let r = c.refused_removal.ensures in
    stops (ap (arrival_of m) r.1) (r.0 ∙ sym size) refl (arrive-unsound l (other-size l (λ e. c.if-len-ne-SIZE.true (sym size ∙ e))) (read reply m))
