-- `lines::put_entries` meets its contract: the room of both entries is tested before the first is stored. Assumes nothing.
use mathlib.Core.Path.{ap}
use mathlib.Core.List.{List, ◌++◌, append-nil}
use Prim.Native.Nat.{ℕ}
use native.Mathlib.Omega.{arith}
use lib.ListN.{length-append}
use Rattle.field_writer.specs.Stored.{none, more}
use Rattle.field_writer.proofs.Storing.{whole-put}
use Rattle.lines.specs.Lines.{decimal, entry}
use Rattle.lines.proofs.Adding.{begins-length}
use Rattle.lines.proofs.Entries.{length-entry}
use Rattle.lines.proofs.put_entries.Goals as goal

pub returns : goal.returns
returns c =
    let early = c in
    let earlier = early in
    let a = earlier.args in
    let digits-a = early.digits_of-len_a.ensures.begins in
    let digits-b = early.digits_of-len_b.ensures.begins in
    let one = entry a.first.now (decimal a.a) a.between in
    let two = entry a.second.now (decimal a.b) 10 in
    whole-put (one ++ two) (ap (λ (e : List ℕ). one ++ e) (append-nil two))
    (omega (arith, length-append one two, length-entry a.first.now (decimal a.a) a.between, length-entry a.second.now (decimal a.b) 10, begins-length digits-a, begins-length digits-b))
    early.room_for_two-start.ensures
    (more (rw digits-a.is at early.put_entry-behind_first.ensures)
    (more (rw digits-b.is at c.put_entry.ensures)
    none))
