-- `lines::put_signed` meets its contract: the number fits into its array. Assumes nothing.
use lib.Dec.{lit≤}
use Rattle.lines.proofs.Decimals.{integer-begins}
use Rattle.lines.proofs.put_signed.Goals as goal

pub slice_bounds-value-end : goal.slice_bounds-value-end
slice_bounds-value-end c =
    let s = c in
    (integer-begins s.args.x s.ranges.x (lit≤ tt) c.put_integer-behind_value.ensures).counts.0

pub slice_bounds-put_entry-end : goal.slice_bounds-put_entry-end
slice_bounds-put_entry-end c =
    let early = c in
    let s = early in
    (integer-begins s.args.x s.ranges.x (lit≤ tt) c.put_integer-behind_value.ensures).counts.1

pub returns : goal.returns
returns c =
    let early = c in
    let s = early in
    rw (integer-begins s.args.x s.ranges.x (lit≤ tt) c.put_integer-behind_value.ensures).is at c.put_entry.ensures
