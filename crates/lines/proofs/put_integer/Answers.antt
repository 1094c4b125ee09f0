-- `lines::put_integer` meets its contract. Assumes nothing.
use mathlib.Core.Path.{ap, ◌∙◌}
use mir.Syntax.{w32}
use mir.ValLaws.{to_z-of_z}
use Rattle.number.specs.TwosComplement.{bits_of}
use Rattle.lines.proofs.Decimals.{negative-text, positive-text}
use Rattle.lines.proofs.put_integer.Goals as goal

pub returns-then-x-lt0 : goal.returns-then-x-lt0
returns-then-x-lt0 c =
    let early = c in
    let s = early in
    let e = to_z-of_z w32 s.args.x s.ranges.x in
    let b = c.bits_of_i32-bits.ensures in
    let t = c.if-x-lt0.true in
    rw (← (negative-text s.args.x s.ranges.x (rw e at t)), ← (b ∙ ap (bits_of 4) e)) c.put_negative.ensures

pub returns : goal.returns
returns c =
    let early = c in
    let s = early in
    let e = to_z-of_z w32 s.args.x s.ranges.x in
    let b = c.bits_of_i32-bits.ensures in
    let t = c.if-x-lt0.false in
    rw (← (positive-text s.args.x (rw e at t)), ← (b ∙ ap (bits_of 4) e)) c.put_decimal.ensures
