-- `wire::bytes_of` meets its contract. Assumes nothing.
use mathlib.Core.Path.{ap}
use Prim.Native.Nat.{ℕ, ◌+◌}
use native.Mathlib.Omega.{arith}
use Rattle.wire.proofs.Runs.{no_bytes, all-bytes, no_place, its-place}
use Rattle.wire.proofs.bytes_of.Goals as goal

pub returns-then-all-start : goal.returns-then-all-start
returns-then-all-start c = let a = c.args in record { bytes = no_bytes a.m.now a.r.start a.r.len (omega arith); place = ap (λ (k : ℕ). (a.m.ref_ptr.0, k + a.m.ref_ptr.1)) (no_place a.m.now a.r.start a.r.len (omega arith)) }

pub returns-then-all-start-2 : goal.returns-then-all-start-2
returns-then-all-start-2 c = let a = c.args in record { bytes = no_bytes a.m.now a.r.start a.r.len (omega arith); place = ap (λ (k : ℕ). (a.m.ref_ptr.0, k + a.m.ref_ptr.1)) (no_place a.m.now a.r.start a.r.len (omega arith)) }

pub returns : goal.returns
returns c = let a = c.args in record { bytes = all-bytes a.m.now a.r.start a.r.len (omega arith); place = ap (λ (k : ℕ). (a.m.ref_ptr.0, k + a.m.ref_ptr.1)) (its-place a.m.now a.r.start a.r.len (omega arith)) }
