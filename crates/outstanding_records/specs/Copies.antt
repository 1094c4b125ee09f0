-- What a copy of a lent table is.
use Rattle.std.specs.Prelude.{ℕ, ◌≡◌, List, length}
use Rattle.outstanding_records.specs.declared.Record.{Record}

-- the records of a table
abbrev pub size : ℕ
size = 64

-- r is a copy of the records l: as many as a table has, and those of l where l has as many. Of another number, the records of r are left open
pub record Copied (l r : List Record) : Type 0 where
  pub full : length r ≡ size
  pub same : length l ≡ size → r ≡ l
