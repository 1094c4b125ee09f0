-- `exports_reading::success_cells` meets its contract: in each arm the reply is of a known variant. Assumes nothing.
use Rattle.layout.proofs.Iterating.{length-names_at}
use Rattle.exports_reading.proofs.success_cells.Goals as goal

pub returns-in-Readdir : goal.returns-in-Readdir
returns-in-Readdir c = λ m. rw (c.in-Readdir.is, length-names_at _ m _) c.three_cells-in-Readdir.ensures
