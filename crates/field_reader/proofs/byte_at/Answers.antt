-- `field_reader::byte_at` meets its contract: a number that was found, or not. Assumes nothing.
use mathlib.Core.Path.{◌≡◌, sym, ap, ◌∙◌}
use native.Mathlib.Omega.{arith}
use Rattle.number.specs.BigEndian.{whole, number_at}
use Rattle.number.specs.Answers.{found_u8}
use Rattle.number.proofs.BigEndian.{whole-fits}
use Rattle.layout.specs.Reading.{num_at}
use Rattle.field_reader.proofs.Cursors.{stays, num-found, num-truncated}
use Rattle.field_reader.proofs.byte_at.Goals as goal
use Rattle.field_reader.proofs.byte_at.Goals.{In-Whole}

found : (c : In-Whole) → let b = c in whole c.in-Whole.value ≡ number_at 1 b.args.m.now b.args.c.at
found c = sym (ap found_u8 c.in-Whole.is) ∙ c.read_u8-read.ensures

pub returns-then-code-ne-NONE : goal.returns-then-code-ne-NONE
returns-then-code-ne-NONE c = stays c.args.c (num_at 1) 0 c.if-code-ne-NONE.true

pub overflow_add-result : goal.overflow_add-result
overflow_add-result c =
    let b = c in
    let f = whole-fits 1 b.args.m.now b.args.c.at (found c) in
    omega (arith, f.0)

pub returns-in-Whole : goal.returns-in-Whole
returns-in-Whole c =
    let before = c in
    num-found 1 before.args.c before.if-code-ne-NONE.false (found c)

pub returns-in-Truncated : goal.returns-in-Truncated
returns-in-Truncated c =
    let before = c in
    num-truncated 1 before.args.c before.if-code-ne-NONE.false (sym (ap found_u8 c.in-Truncated.is) ∙ c.read_u8-read.ensures)
