-- `readdir_writer::collect_names` meets its contract. Assumes nothing.
use mathlib.Core.Path.{refl, sym, ◌∙◌}
use Rattle.readdir_writer.proofs.Copying.{room_for, collects-all}
use Rattle.readdir_writer.proofs.collect_names.Goals as goal

pub copy_names-requires : goal.copy_names-requires
copy_names-requires c = let answer = c in room_for _ _ (sym answer.in-Copied.is ∙ answer.count_names-answer.ensures)

pub returns-in-Copied : goal.returns-in-Copied
returns-in-Copied c =
    let copy = c in
    let answer = copy in
    collects-all (sym answer.in-Copied.is ∙ answer.count_names-answer.ensures) copy.copy_names.ensures

pub returns-in-Refused : goal.returns-in-Refused
returns-in-Refused c = record { answers = sym c.in-Refused.is ∙ c.count_names-answer.ensures; leaves = refl }
