-- `shown::table::read_table` meets its contract: the first i records are read, and the length stays. Assumes nothing.
use Prim.Native.Nat.{ℕ, ◌-◌, ◌*◌, ◌≤◌}
use mathlib.Core.List.{List}
use mathlib.Core.Path.{◌≡◌}
use lib.ListN.{length, take, drop}
use Rattle.outstanding_records.specs.declared.Record.{Record}
use Rattle.shown.specs.Cases.{listed, record_in, record_size}
use Rattle.shown.proofs.table.read_table.Given as goal

abbrev pub record-at : List ℕ → ℕ → Record
record-at l i = record_in (drop (i * record_size) l)

abbrev pub invariant-loop-i : goal.invariant-loop-i
invariant-loop-i l = (length l.table ≡ 64) × (l.i ≤ 64) × (take l.i l.table ≡ listed (record-at l.records) l.i)

abbrev pub decreases-loop-i : goal.decreases-loop-i
decreases-loop-i l = 64 - l.i
