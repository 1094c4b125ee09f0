-- `lines::put_entry` meets its contract: the room of all pieces is tested before the first is stored. Assumes nothing.
use mathlib.Core.Path.{refl}
use native.Mathlib.Omega.{arith}
use lib.Dec.{lit<}
use Rattle.field_writer.specs.Stored.{none, more}
use Rattle.field_writer.proofs.Storing.{whole-put}
use Rattle.lines.specs.Lines.{entry}
use Rattle.lines.proofs.Entries.{length-entry, one_byte}
use Rattle.lines.proofs.put_entry.Goals as goal

pub returns : goal.returns
returns c =
    let early = c in
    let earlier = early in
    let s = earlier in
    let name = s.args.name.now in
    let value = s.args.value.now in
    let end = s.args.end in
    whole-put (entry name value end) refl (omega (arith, length-entry name value end))
    early.room_for_two-start.ensures
    (more early.put_all-behind_name.ensures
    (more (rw (one_byte 32 (lit< tt)) at early.put_u8-behind_space.ensures)
    (more c.put_all-behind_value.ensures
    (more (rw (one_byte end s.ranges.end.fits) at c.put_u8.ensures)
    none))))
