-- `readdir_writer::count_names` meets its contract. Assumes nothing.
use mathlib.Core.Path.{sym, ◌∙◌}
use Prim.Native.Nat.{◌+◌}
use native.Mathlib.Omega.{arith}
use Rattle.layout.specs.Values.{part}
use Rattle.readdir_writer.proofs.Taking.{NameHere, name-given, names-next, names-none, names-ended}
use Rattle.readdir_writer.proofs.Copying.{count-all, count-end, names-full, bytes-full, count_next}
use Rattle.readdir_writer.proofs.count_names.Goals as goal
use Rattle.readdir_writer.proofs.count_names.Goals.{In-Name}

-- the name that the loop has met
here : (c : In-Name) →
    let loop = c in
    NameHere loop.args.m.now loop.loop-left.at (part c.in-Name.start c.in-Name.len) (c.in-Name.start + c.in-Name.len)
here c = name-given _ _ (sym c.in-Name.is ∙ c.name_at-next.ensures)

pub loop-left-init : goal.loop-left-init
loop-left-init c = count-all _ _ _

pub returns-in_default : goal.returns-in_default
returns-in_default c =
    let name = c in
    let loop = name.loop-left in
    count-end loop.invariant (names-ended _ _ loop.left (sym c.in_default.is ∙ name.name_at-next.ensures))

pub returns-then-most-done : goal.returns-then-most-done
returns-then-most-done c =
    let told = (goal.at.returns-then-most-done c).In-Name in
    let loop = told in
    c.no_room.ensures ∙ names-full loop.loop-left.invariant (names-next loop.loop-left.left (here told) loop.loop-left-test.true) (omega arith)

pub overflow_sub-room : goal.overflow_sub-room
overflow_sub-room c = c.loop-left.invariant.bytes_fit

pub returns-then-room-total : goal.returns-then-room-total
returns-then-room-total c =
    let told = (goal.at.returns-then-room-total c).In-Name in
    let loop = told in
    c.no_room-then-room-total.ensures ∙ bytes-full loop.loop-left.invariant (names-next loop.loop-left.left (here told) loop.loop-left-test.true) (omega arith)

pub overflow_add-at : goal.overflow_add-at
overflow_add-at c = omega (arith, (here (goal.at.overflow_add-at c).In-Name).fits)

pub overflow_add-done : goal.overflow_add-done
overflow_add-done c = omega arith

pub overflow_add-total : goal.overflow_add-total
overflow_add-total c = omega arith

pub loop-left-preserved : goal.loop-left-preserved
loop-left-preserved c =
    let loop = c in
    count_next loop.loop-left.invariant (names-next loop.loop-left.left (here (goal.at.loop-left-preserved c).In-Name) loop.loop-left-test.true) (omega arith) (omega arith)

pub returns : goal.returns
returns c = count-end c.loop-left.invariant (names-none _ _ _ c.loop-left-test.false)
