-- `reply_rewriter::meet_names` meets its contract. Assumes nothing.
use mathlib.Core.Path.{refl, sym, ◌∙◌}
use Prim.Native.Nat.{ℕ, ◌+◌}
use native.Mathlib.Omega.{arith}
use Rattle.layout.specs.Values.{part}
use Rattle.layout.specs.Names.{first_name}
use Rattle.readdir_writer.proofs.Taking.{NameHere, name-given, names-none, names-ended}
use Rattle.reply_rewriter.proofs.Meeting.{left-all, left-fits, left-next, left_end}
use Rattle.reply_rewriter.proofs.meet_names.Goals as goal
use Rattle.reply_rewriter.proofs.meet_names.Goals.{In-Name}

-- the name that the loop has met
here : (c : In-Name) →
    let loop = c in
    NameHere loop.args.m.now (first_name + c.loop-left.len) (part c.in-Name.start c.in-Name.size) (c.in-Name.start + c.in-Name.size)
here c = name-given _ _ (sym c.in-Name.is ∙ c.name_at-next.ensures)

pub loop-left-init : goal.loop-left-init
loop-left-init c = left-all _ _

pub overflow_add-len : goal.overflow_add-len
overflow_add-len c = omega (arith, left-fits c.loop-left.invariant 18446744073709551615 (omega arith) (omega arith))

pub overflow_sub-result : goal.overflow_sub-result
overflow_sub-result c = omega arith

pub returns-in_default : goal.returns-in_default
returns-in_default c =
    let name = c in
    let loop = name.loop-left in
    left_end loop.invariant (names-ended _ _ loop.left (sym c.in_default.is ∙ name.name_at-next.ensures)) _ refl

pub overflow_add-end : goal.overflow_add-end
overflow_add-end c = omega (arith, (here c).fits)

pub slice_bounds-is_text-end : goal.slice_bounds-is_text-end
slice_bounds-is_text-end c = omega (arith, (here c).fits)

pub overflow_sub-len : goal.overflow_sub-len
overflow_sub-len c = omega (arith, (here (goal.at.overflow_sub-len c).In-Name).begins)

pub loop-left-preserved : goal.loop-left-preserved
loop-left-preserved c =
    let told = (goal.at.loop-left-preserved c).In-Name in
    let loop = told in
    left-next loop.loop-left.invariant (λ (j : ℕ). (c.type_inv.m j).fits) loop.loop-left-test.true (here told) c.is_text-texts.ensures

pub returns : goal.returns
returns c = left_end c.loop-left.invariant (names-none _ _ _ c.loop-left-test.false) _ (omega arith)
