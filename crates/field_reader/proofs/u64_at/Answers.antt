-- `field_reader::u64_at` meets its contract: a number that was found, or not. Assumes nothing.
use mathlib.Core.Path.{◌≡◌, sym, ap, ◌∙◌}
use native.Mathlib.Omega.{arith}
use Rattle.number.specs.BigEndian.{whole, number_at}
use Rattle.number.specs.Answers.{found_u64}
use Rattle.number.proofs.BigEndian.{whole-fits}
use Rattle.layout.specs.Kinds.{u64}
use Rattle.layout.specs.Reading.{num_at, value_of}
use Rattle.field_reader.proofs.Cursors.{stays, num-found, num-truncated, map-ended}
use Rattle.field_reader.proofs.u64_at.Goals as goal
use Rattle.field_reader.proofs.u64_at.Goals.{In-Whole}

found : (c : In-Whole) → let b = c in whole c.in-Whole.value ≡ number_at 8 b.args.m.now b.args.c.at
found c = sym (ap found_u64 c.in-Whole.is) ∙ c.read_u64-read.ensures

pub returns-then-code-ne-NONE : goal.returns-then-code-ne-NONE
returns-then-code-ne-NONE c = map-ended (value_of u64) (num_at 8) (stays c.args.c (num_at 8) 0 c.if-code-ne-NONE.true)

pub overflow_add-result : goal.overflow_add-result
overflow_add-result c =
    let b = c in
    let f = whole-fits 8 b.args.m.now b.args.c.at (found c) in
    omega (arith, f.0)

pub returns-in-Whole : goal.returns-in-Whole
returns-in-Whole c =
    let before = c in
    map-ended (value_of u64) (num_at 8) (num-found 8 before.args.c before.if-code-ne-NONE.false (found c))

pub returns-in-Truncated : goal.returns-in-Truncated
returns-in-Truncated c =
    let before = c in
    map-ended (value_of u64) (num_at 8) (num-truncated 8 before.args.c before.if-code-ne-NONE.false (sym (ap found_u64 c.in-Truncated.is) ∙ c.read_u64-read.ensures))
