-- `agreement::same` meets its contract. Assumes nothing.
use native.Mathlib.Omega.{arith}
use Rattle.agreement.proofs.SameBytes.{lengths_differ, from-the-first, one-differs, one_more, all_same}
use Rattle.agreement.proofs.same.Goals as goal

pub returns-then-a-b : goal.returns-then-a-b
returns-then-a-b c = lengths_differ c.args.a.now c.args.b.now c.if-a-b.true

pub loop-i-init : goal.loop-i-init
loop-i-init c = from-the-first c.if-a-b.false

pub bounds-b-i : goal.bounds-b-i
bounds-b-i c = omega (arith, c.loop-i-test.true, c.loop-i.invariant.lengths)

pub returns-then-a-i : goal.returns-then-a-i
returns-then-a-i c = one-differs c.loop-i.invariant c.loop-i-test.true c.if-a-i.true

pub loop-i-preserved : goal.loop-i-preserved
loop-i-preserved c = one_more c.loop-i.invariant c.loop-i-test.true c.if-a-i.false

pub returns : goal.returns
returns c = all_same c.loop-i.invariant c.loop-i-test.false
