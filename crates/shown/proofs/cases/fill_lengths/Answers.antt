-- `shown::cases::fill_lengths` meets its contract: the first i numbers are filled, and the length stays. Assumes nothing.
use mathlib.Core.Path.{refl, ◌∙◌}
use native.Mathlib.Omega.{arith}
use lib.ListN.{length-set}
use Rattle.shown.specs.Cases.{listed, filling, number_modulus}
use Rattle.shown.proofs.Filling.{listed-turn, listed-done}
use Rattle.shown.proofs.cases.fill_lengths.Goals as goal

pub loop-i-init : goal.loop-i-init
unfolding listed
loop-i-init c = (refl, omega arith, refl)

pub loop-i-preserved : goal.loop-i-preserved
loop-i-preserved c =
    let l = c.loop-i in
    let inside = c.loop-i-test.true in
    (length-set l.lengths l.i _ ∙ l.invariant.0, omega (arith, inside, l.invariant.0), listed-turn (filling number_modulus) l.lengths l.i _ inside c.fill_number.ensures l.invariant.2)

pub returns : goal.returns
returns c =
    let l = c.loop-i in
    listed-done (filling number_modulus) l.lengths l.i _ (omega (arith, c.loop-i-test.false, l.invariant.0, l.invariant.1)) l.invariant.0 l.invariant.2
