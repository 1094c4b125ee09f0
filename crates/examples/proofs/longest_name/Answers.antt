-- `examples::longest_name` meets its contract: what is left to meet, with the longest so far, leads to the whole. Assumes nothing.
use mathlib.Core.Path.{◌∙◌}
use native.Mathlib.Omega.{arith}
use Rattle.names.specs.Positions.{position_of}
use Rattle.examples.specs.Longest.{longest}
use Rattle.examples.proofs.Longest.{turned, from-opened, at-end}
use Rattle.examples.proofs.longest_name.Goals as goal

pub loop-left-init : goal.loop-left-init
loop-left-init c = from-opened _ _ c.open-position.ensures

pub overflow_sub-left : goal.overflow_sub-left
overflow_sub-left c = omega arith

pub loop-left-smaller : goal.loop-left-smaller
loop-left-smaller c = omega arith

pub loop-left-preserved : goal.loop-left-preserved
loop-left-preserved c =
    let turn = c in
    turned _ (position_of turn.loop-left.position) turn.loop-left.longest turn.loop-left.left (omega arith)
    c.step_from-step.ensures
    c.behind-position.ensures
    c.name-name.ensures.bytes
    c.greater-longest.ensures
    ∙ turn.loop-left.invariant

pub returns : goal.returns
returns c = at-end _ _ c.loop-left.left _ (omega arith) ∙ c.loop-left.invariant
