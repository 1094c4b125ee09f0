-- `shown::checksum::with_bytes` meets its contract: what is left, behind the checksum so far, gives the whole. Assumes nothing.
use mathlib.Core.Path.{refl, ◌∙◌}
use Rattle.shown.proofs.Checksums.{byte-turn, bytes-done}
use Rattle.shown.proofs.checksum.with_bytes.Goals as goal

pub loop-i-init : goal.loop-i-init
loop-i-init c = refl

pub loop-i-preserved : goal.loop-i-preserved
loop-i-preserved c =
    let v = c in
    let s = v.args.s.now in
    rw c.with_byte-so_far.ensures (byte-turn s v.loop-i.i v.loop-i.so_far c.loop-i-test.true ∙ v.loop-i.invariant)

pub returns : goal.returns
returns c =
    let v = c in
    bytes-done v.args.s.now v.loop-i.i v.loop-i.so_far _ c.loop-i-test.false v.loop-i.invariant
