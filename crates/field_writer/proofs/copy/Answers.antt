-- `field_writer::copy` meets its contract. Assumes nothing.
use mathlib.Core.Path.{◌≡◌, refl, ◌∙◌}
use native.Mathlib.Numerals.{add-one}
use native.Mathlib.Omega.{arith}
use lib.ListN.{length, length-set}
use lib.Seq.{paste-zero, paste-suc, take-length}
use Rattle.number.specs.BigEndian.{overwritten}
use Rattle.field_writer.proofs.copy.Goals as goal

pub loop-done-init : goal.loop-done-init
loop-done-init c = (paste-zero c.args.out.now c.args.at c.args.s.now, omega arith, refl)

pub loop-done-preserved : goal.loop-done-preserved
loop-done-preserved c =
    let a = c.args in
    let l = c.loop-done in
    (rw (l.invariant.0, add-one) (paste-suc a.out.now a.at a.s.now l.done 0 (omega arith) (omega arith)), omega arith, simp length-set l.invariant.2)

pub returns : goal.returns
unfolding overwritten
returns c =
    let a = c.args in
    let l = c.loop-done in
    let e : l.done ≡ length a.s.now = omega arith in
    l.invariant.0 ∙ rw (e, take-length a.s.now)
