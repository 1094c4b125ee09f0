-- Where the names of a message end.
use Rattle.std.specs.Prelude.{ℕ, Bool, true, false, List}
use Rattle.layout.specs.Names.{Step, name, ended, opened, step}
use Rattle.names.specs.Positions.{skipped}

abbrev pub is_end : Step → Bool
is_end (name x w) = false
is_end (ended w) = true

-- the iterator on m has no name number n, counted from 0
abbrev pub is_past : ℕ → List ℕ → Bool
is_past n m = is_end (step m (skipped n m (opened m)))
