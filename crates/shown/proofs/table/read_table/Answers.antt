-- `shown::table::read_table` meets its contract: the first i records are read, and the length stays. Assumes nothing.
use mathlib.Core.Path.{refl, ap, ◌∙◌}
use native.Mathlib.Omega.{arith}
use lib.ListN.{length-set}
use Rattle.shown.specs.Cases.{listed, record_in, table_in}
use Rattle.shown.proofs.Filling.{listed-turn, listed-done}
use Rattle.shown.proofs.table.read_table.Invariants.{record-at}
use Rattle.shown.proofs.table.read_table.Goals as goal

pub loop-i-init : goal.loop-i-init
unfolding listed
loop-i-init c = (refl, omega arith, refl)

pub loop-i-preserved : goal.loop-i-preserved
loop-i-preserved c =
    let v = c in
    let l = v.loop-i in
    let s = v.args.records.now in
    let inside = c.loop-i-test.true in
    (length-set l.table l.i _ ∙ l.invariant.0, omega (arith, inside), listed-turn (record-at s) l.table l.i _ (omega (arith, inside, l.invariant.0)) (c.read_record.ensures ∙ ap record_in c.rest.ensures) l.invariant.2)

pub returns : goal.returns
unfolding table_in
returns c =
    let v = c in
    let l = v.loop-i in
    listed-done (record-at v.args.records.now) l.table l.i 64 (omega (arith, c.loop-i-test.false, l.invariant.1)) l.invariant.0 l.invariant.2
