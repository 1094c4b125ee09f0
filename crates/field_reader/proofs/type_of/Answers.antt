-- `field_reader::type_of` meets its contract. Assumes nothing.
use native.Mathlib.Omega.{arith}
use Rattle.field_reader.proofs.Types.{type-none, type-byte}
use Rattle.field_reader.proofs.type_of.Goals as goal

pub returns-then-m-le-TYPE_PLACE : goal.returns-then-m-le-TYPE_PLACE
returns-then-m-le-TYPE_PLACE c = type-none c.args.m.now (omega arith)

pub returns : goal.returns
returns c = type-byte c.args.m.now (omega arith)
