-- `number::load_u64` meets its contract: the 8 bytes are that part of the slice. Assumes nothing.
use mathlib.Core.Path.{◌∙◌, ap}
use Rattle.number.specs.BigEndian.{be}
use Rattle.number.proofs.Straight.{loaded}
use Rattle.number.proofs.load_u64.Goals as goal

pub returns : goal.returns
unfolding be
returns c =
    let early = c in
    let b = early in
    c.join8.ensures ∙ ap be (loaded 7 b.args.at b.args.s.now b.requires)
