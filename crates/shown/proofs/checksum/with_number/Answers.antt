-- `shown::checksum::with_number` meets its contract. Assumes nothing.
use mathlib.Core.Path.{ap, ◌∙◌}
use borrow.Author.Rules.{rules}
use Rattle.shown.specs.Checksum.{checksum_after}
use Rattle.shown.proofs.Checksums.{stored}
use Rattle.shown.proofs.checksum.with_number.Goals as goal

pub returns : goal.returns
returns c =
    let v = c in
    let a = v.args in
    c.with_bytes.ensures ∙ ap (checksum_after a.h) (stored a.n _ _ v.store_u32.ensures)
