-- `number::set_u8` meets its contract: a byte is its own low byte. Assumes nothing.
use mathlib.Core.Path.{◌≡◌}
use mathlib.Core.List.{[]}
use Prim.Native.Nat.{◌/◌, ◌%◌, ◌^◌}
use native.Mathlib.Omega.{arith}
use Rattle.number.specs.BigEndian.{bytes_of}
use Rattle.number.proofs.Straight.{stored}
use Rattle.number.proofs.set_u8.Goals as goal

pub returns : goal.returns
unfolding bytes_of
returns c =
    let low : c.args.x / 256 ^ 0 % 256 ≡ c.args.x = omega (arith, c.ranges.x.fits) in
    rw low (stored c.args.x [] c.args.out.now c.args.at c.requires)
