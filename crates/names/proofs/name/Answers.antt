-- `names::name` meets its contract. Assumes nothing.
use mathlib.Core.Path.{ap}
use Prim.Native.Nat.{ℕ, ◌+◌}
use native.Mathlib.Omega.{arith}
use Rattle.wire.proofs.Runs.{all-bytes, its-place}
use Rattle.names.proofs.name.Goals as goal

pub returns-in-Name : goal.returns-in-Name
returns-in-Name c = rw c.in-Name.is c.bytes_of.ensures

pub returns-in-End : goal.returns-in-End
returns-in-End c = rw c.in-End.is (record { bytes = all-bytes _ 0 0 (omega arith); place = ap (λ (k : ℕ). (c.args.m.ref_ptr.0, k + c.args.m.ref_ptr.1)) (its-place c.args.m.now 0 0 (omega arith)) })
