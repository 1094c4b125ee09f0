-- `readdir_writer::copy_names` meets its contract. Assumes nothing.
use mathlib.Core.Path.{sym, ◌∙◌}
use Prim.Native.Nat.{◌+◌}
use native.Mathlib.Omega.{arith}
use borrow.Author.Rules.{rules}
use Rattle.layout.specs.Values.{part}
use Rattle.layout.specs.Names.{first_name}
use Rattle.readdir_writer.proofs.Taking.{NameHere, name-given, names-next, joined_length, names-none, names-ended}
use Rattle.readdir_writer.proofs.Copying.{copy-all, copy-end, copy-index, copy-next}
use Rattle.readdir_writer.proofs.copy_names.Goals as goal
use Rattle.readdir_writer.proofs.copy_names.Goals.{In-Name}

-- the name that the loop has met
here : (c : In-Name) →
    let loop = c in
    NameHere loop.args.m.now loop.loop-left.at (part c.in-Name.start c.in-Name.len) (c.in-Name.start + c.in-Name.len)
here c = name-given _ _ (sym c.in-Name.is ∙ c.name_at-next.ensures)

pub loop-left-init : goal.loop-left-init
loop-left-init c = let a = c.args in copy-all _ _ (joined_length a.m.now first_name a.count)

pub returns-in_default : goal.returns-in_default
returns-in_default c =
    let name = c in
    let loop = name in
    copy-end loop.loop-left.invariant loop.requires (names-ended _ _ loop.loop-left.left (sym c.in_default.is ∙ name.name_at-next.ensures))

pub overflow_add-end : goal.overflow_add-end
overflow_add-end c = omega (arith, (here c).fits)

pub slice_bounds-put_all-end : goal.slice_bounds-put_all-end
slice_bounds-put_all-end c = omega (arith, (here (goal.at.slice_bounds-put_all-end c).In-Name).fits)

pub bounds-lengths-done : goal.bounds-lengths-done
bounds-lengths-done c =
    let told = (goal.at.bounds-lengths-done c).In-Name in
    let loop = told in
    copy-index loop.loop-left.invariant loop.requires (names-next loop.loop-left.left (here told) loop.loop-left-test.true)

pub loop-left-preserved : goal.loop-left-preserved
loop-left-preserved c =
    let put = c in
    let told = (goal.at.loop-left-preserved put).In-Name in
    let loop = told in
    copy-next loop.loop-left.invariant loop.requires (names-next loop.loop-left.left (here told) loop.loop-left-test.true) put.put_all-behind.ensures (search rules)

pub returns : goal.returns
returns c = copy-end c.loop-left.invariant c.requires (names-none _ _ _ c.loop-left-test.false)
