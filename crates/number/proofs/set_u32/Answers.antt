-- `number::set_u32` meets its contract: the 4 stores overwrite that part of the buffer. Assumes nothing.
use Prim.Native.Nat.{◌/◌, ◌%◌, ◌^◌}
use native.Mathlib.Omega.{arith}
use lib.ListN.{length-set}
use Rattle.number.specs.BigEndian.{bytes_of}
use Rattle.number.proofs.Straight.{stored}
use Rattle.number.proofs.set_u32.Goals as goal

pub bounds-out-at-2 : goal.bounds-out-at-2
bounds-out-at-2 c = simp length-set (omega arith)

pub bounds-out-at-3 : goal.bounds-out-at-3
bounds-out-at-3 c = simp length-set (omega arith)

pub bounds-out-at-4 : goal.bounds-out-at-4
bounds-out-at-4 c = simp length-set (omega arith)

pub shape_of-out : goal.shape_of-out
shape_of-out c = simp length-set

pub returns : goal.returns
unfolding bytes_of
returns c = let x = c.args.x in stored (x / 256 ^ 3 % 256) (bytes_of 3 x) c.args.out.now c.args.at c.requires
