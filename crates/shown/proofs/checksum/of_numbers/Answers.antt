-- `shown::checksum::of_numbers` meets its contract: what is left, behind h, gives the whole. Assumes nothing.
use Prim.Native.Nat.{◌-◌}
use mathlib.Core.Path.{◌≡◌, refl, ◌∙◌}
use lib.ListN.{length, drop}
use borrow.Author.Rules.{rules}
use Rattle.number.specs.BigEndian.{bytes_of}
use Rattle.shown.specs.Checksum.{checksum_after, checksum, numbers_bytes}
use Rattle.shown.proofs.Checksums.{element-turn, elements-done}
use Rattle.shown.proofs.checksum.of_numbers.Goals as goal

pub loop-i-init : goal.loop-i-init
loop-i-init c = refl

pub loop-i-preserved : goal.loop-i-preserved
loop-i-preserved c =
    let v = c in
    let l = v.args.numbers.now in
    rw c.with_number-h.ensures (element-turn (bytes_of 4) l v.loop-i.i v.loop-i.h 0 c.loop-i-test.true ∙ v.loop-i.invariant)

pub returns : goal.returns
returns c =
    let v = c in
    elements-done (bytes_of 4) v.args.numbers.now v.loop-i.i v.loop-i.h _ c.loop-i-test.false v.loop-i.invariant
