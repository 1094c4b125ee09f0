-- `lines::digits_of` meets its contract. Assumes nothing.
use Rattle.lines.proofs.Decimals.{digits-made}
use Rattle.lines.proofs.digits_of.Goals as goal

pub returns : goal.returns
returns c =
    let d = c.decimal in
    let s = c in
    let made = digits-made s.args.n d.result _ s.ranges.n.fits d.ensures.in_bounds d.ensures.len d.ensures.digits in
    record { begins = made.0; upper_bound = made.1 }
