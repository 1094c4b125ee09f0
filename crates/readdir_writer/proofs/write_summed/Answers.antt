-- `readdir_writer::write_summed` meets its contract. Assumes nothing.
use Prim.Native.Nat.{◌+◌, ◌*◌}
use native.Mathlib.Omega.{arith}
use lib.ListN.{length}
use mir.Syntax.{w32}
use mir.ValLaws.{to_z-of_z}
use borrow.Author.Rules.{rules}
use Rattle.field_writer.specs.Stored.{none, more}
use Rattle.field_writer.proofs.Storing.{puts-from}
use Rattle.message_writer.proofs.Writers.{admitted-within}
use Rattle.readdir_writer.proofs.Readdirs.{names-wrote}
use Rattle.readdir_writer.proofs.write_summed.Goals as goal

-- the names are no longer than the message that was admitted
pub put_names-behind_names-requires : goal.put_names-behind_names-requires
put_names-behind_names-requires c =
    let early = c in
    let earlier = early in
    let start = earlier in
    let a = start.args in
    let stored = more early.put_header-header.ensures (more early.put_i32-behind_result.ensures (more c.put_u32-behind_count.ensures none)) in
    let checked = admitted-within _ (length a.names.now + 4 * length a.lengths.now + 13) _ early.admit-start.ensures in
    (start.requires, λ z. let size = checked (puts-from stored z) in omega (arith, size))

pub returns : goal.returns
returns c =
    let names = c in
    let count = names in
    let result = count in
    let header = result in
    let admit = header in
    let start = admit in
    let a = start.args in
    names-wrote a.id a.res a.lengths.now a.names.now start.requires admit.are_texts-texts.ensures admit.admit-start.ensures
    (more header.put_header-header.ensures
    (more (rw (to_z-of_z w32 a.res (search rules)) at result.put_i32-behind_result.ensures)
    (more count.put_u32-behind_count.ensures names.put_names-behind_names.ensures)))
    c.finish.ensures
