-- `number::read_u64` meets its contract: each test decides whether the number is whole. Assumes nothing.
use native.Mathlib.Omega.{arith}
use Rattle.number.proofs.BigEndian.{found-truncated, found-whole}
use Rattle.number.proofs.read_u64.Goals as goal

pub returns-then-len-lt8 : goal.returns-then-len-lt8
returns-then-len-lt8 c = let a = c.args in found-truncated 8 a.s.now a.at (omega arith)

pub returns-then-len-at : goal.returns-then-len-at
returns-then-len-at c = let a = c.args in found-truncated 8 a.s.now a.at (omega arith)

pub returns : goal.returns
returns c = let a = c.args in found-whole 8 a.s.now a.at (omega arith) c.load_u64.ensures
