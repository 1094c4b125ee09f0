-- `shown::checksum::of_records` meets its contract: what is left, behind h, gives the whole. Assumes nothing.
use Prim.Native.Nat.{◌-◌}
use mathlib.Core.Path.{◌≡◌, refl, ◌∙◌}
use native.Mathlib.Omega.{arith}
use lib.ListN.{length, drop, get_or-map}
use borrow.Author.Rules.{rules}
use Rattle.outstanding_records.specs.declared.Record.TheVariants.{Free}
use Rattle.std.proofs.lemmas.List.{length-map}
use Rattle.outstanding_records.specs.Words.{record_of, records}
use Rattle.shown.specs.Checksum.{checksum_after, checksum, record_bytes, records_bytes}
use Rattle.shown.proofs.Checksums.{element-turn, elements-done}
use Rattle.shown.proofs.checksum.of_records.Goals as goal

pub loop-i-init : goal.loop-i-init
loop-i-init c = refl

pub loop-i-preserved : goal.loop-i-preserved
unfolding record_of
loop-i-preserved c =
    let v = c in
    let words = v.args.words in
    let size : length words ≡ 64 = search rules in
    let inside = c.loop-i-test.true in
    rw (c.with_record-h.ensures, c.from.ensures, ← get_or-map record_of words v.loop-i.i 0) (element-turn record_bytes (records words) v.loop-i.i v.loop-i.h Free (omega (arith, inside, size, length-map words record_of)) ∙ v.loop-i.invariant)

pub returns : goal.returns
returns c =
    let v = c in
    let words = v.args.words in
    let size : length words ≡ 64 = search rules in
    elements-done record_bytes (records words) v.loop-i.i v.loop-i.h _ (omega (arith, c.loop-i-test.false, size, length-map words record_of)) v.loop-i.invariant
