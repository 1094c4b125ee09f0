-- `outstanding_decisions::decide_entry` meets its contract. Assumes nothing.
use mathlib.Core.Path.{sym, ◌∙◌}
use Rattle.outstanding.proofs.Cases.{other-size, enter-unsound}
use Rattle.outstanding_decisions.proofs.Deciding.{stops}
use Rattle.outstanding_decisions.proofs.decide_entry.Goals as goal

pub returns-then-len-ne-SIZE : goal.returns-then-len-ne-SIZE
returns-then-len-ne-SIZE c l size copied =
    let a = c.args in
    let r = c.refused_entry.ensures in
    stops r.0 (r.1 ∙ sym size) r.2 (enter-unsound l (other-size l (λ e. c.if-len-ne-SIZE.true (sym size ∙ e))) a.id a.type_number)
