-- `isolation::write_reply_twice` meets its contract: by what each run promises. Assumes nothing.
use mir.Syntax.{w32}
use mir.ValLaws.{to_z-of_z}
use Rattle.layout.proofs.Isolating.{write-isolated}
use Rattle.isolation.proofs.Alone.{wrote-apart}
use Rattle.isolation.proofs.write_reply_twice.Goals as goal

pub returns : goal.returns
returns c =
    let early = c in
    let start = early in
    let result = to_z-of_z w32 start.args.res start.ranges.res in
    wrote-apart (write-isolated _ _ _ _ _ _) (rw result at c.write_reply-first.ensures) (rw result at c.write_reply-second.ensures)
