-- `names::skip` meets its contract. What is left to pass over from `here` leads where all leads from the start. Assumes nothing.
use mathlib.Core.Path.{refl, sym, ap, ◌∙◌}
use native.Mathlib.Omega.{arith}
use Rattle.names.specs.Positions.{step_of}
use Rattle.names.proofs.Skipping.{skip-none, skip-name, skip-end}
use Rattle.names.proofs.skip.Goals as goal

pub loop-left-init : goal.loop-left-init
loop-left-init c = refl

pub returns-in-End : goal.returns-in-End
returns-in-End c =
    let turn = c in
    skip-end turn.loop-left.left (record { is = ap step_of (sym c.in-End.is) ∙ c.step_at-step.ensures }) ∙ turn.loop-left.invariant

pub overflow_sub-left : goal.overflow_sub-left
overflow_sub-left c = omega arith

pub loop-left-smaller : goal.loop-left-smaller
loop-left-smaller c = omega arith

pub loop-left-preserved : goal.loop-left-preserved
loop-left-preserved c =
    let turn = c in
    skip-name turn.loop-left.left (omega arith) (record { is = ap step_of (sym c.in-Name.is) ∙ c.step_at-step.ensures }) ∙ turn.loop-left.invariant

pub returns : goal.returns
returns c = skip-none _ _ c.loop-left.left (omega arith) ∙ c.loop-left.invariant
