-- `field_writer::put_header` meets its contract. Assumes nothing.
use mathlib.Core.Path.{ap}
use Prim.Native.Nat.{ℕ}
use native.Mathlib.Omega.{arith}
use mathlib.Core.List.{List, ◌++◌, append-nil}
use lib.ListN.{length-append}
use Rattle.number.specs.BigEndian.{bytes_of}
use Rattle.number.proofs.BigEndian.{length-bytes_of}
use Rattle.field_writer.specs.Stored.{none, more}
use Rattle.field_writer.proofs.Storing.{whole-put}
use Rattle.field_writer.proofs.put_header.Goals as goal

pub returns : goal.returns
returns c =
    let early = c in
    let a = early.args in
    let one = bytes_of 4 a.id in
    let two = bytes_of 1 a.type_number in
    whole-put (one ++ two) (ap (λ (e : List ℕ). one ++ e) (append-nil two)) (omega (arith, length-append one two, length-bytes_of 4 a.id, length-bytes_of 1 a.type_number))
    early.room-start.ensures (more c.put_u32-behind_id.ensures (more c.put_u8.ensures none))
