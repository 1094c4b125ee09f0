-- `names::step_at` meets its contract. Assumes nothing.
use native.Mathlib.Omega.{arith}
use Rattle.layout.specs.Names.{step}
use Rattle.names.proofs.Stepping.{step-name, step_end}
use Rattle.names.proofs.step_at.Goals as goal

pub returns-then-left-eq0 : goal.returns-then-left-eq0
unfolding step
returns-then-left-eq0 c = rw c.if-left-eq0.true

pub returns-then-code-eq-NONE : goal.returns-then-code-eq-NONE
returns-then-code-eq-NONE c = step-name _ _ c.bytes_at-name.ensures _ (omega arith) c.if-code-eq-NONE.true

pub returns : goal.returns
returns c = step_end _ _ c.bytes_at-name.ensures _ (omega arith) c.if-code-eq-NONE.false
