-- `number::load_u32` meets its contract: the 4 bytes are that part of the slice. Assumes nothing.
use mathlib.Core.Path.{◌∙◌, ap}
use Rattle.number.specs.BigEndian.{be}
use Rattle.number.proofs.Straight.{loaded}
use Rattle.number.proofs.load_u32.Goals as goal

pub returns : goal.returns
unfolding be
returns c =
    let b = c in
    c.join4.ensures ∙ ap be (loaded 3 b.args.at b.args.s.now b.requires)
