-- `outstanding_decisions::decide_look` meets its contract. Assumes nothing.
use mathlib.Core.Path.{sym, ◌∙◌}
use Rattle.outstanding.proofs.Cases.{other-size, look-unsound}
use Rattle.outstanding_decisions.proofs.decide_look.Goals as goal

pub returns-then-len-ne-SIZE : goal.returns-then-len-ne-SIZE
returns-then-len-ne-SIZE c l size copied = c.refused_look.ensures ∙ sym (look-unsound l (other-size l (λ e. c.if-len-ne-SIZE.true (sym size ∙ e))) c.args.id)
