-- The values of the fields that have members, and of some requests, in the table's order; and what values say in a message.
use Rattle.std.specs.Prelude.{ℕ, List, [], ◌∷◌, ◌++◌, map}
use Rattle.layout.specs.Values.{Part, Value, number, signed, truth, run, runs}
use Rattle.wire.specs.Runs.{shown}
use Rattle.wire.specs.declared.Timestamp.{Timestamp}
use Rattle.wire.specs.declared.Attributes.{Attributes}
use Rattle.wire.specs.declared.Statistics.{Statistics}

-- the members of a timestamp, in front of what follows it
abbrev pub time_values : {A : Type 0} → Timestamp → List (Value A) → List (Value A)
time_values t vs = number t.seconds ∷ number t.nsec ∷ vs

abbrev pub attributes_values : {A : Type 0} → Attributes → List (Value A)
attributes_values a =
    number a.inode
    ∷ number a.nlink
    ∷ number a.mode
    ∷ number a.uid
    ∷ number a.gid
    ∷ number a.rdev
    ∷ number a.size
    ∷ number a.blocks
    ∷ time_values a.atime (time_values a.mtime (time_values a.ctime []))

abbrev pub statistics_values : {A : Type 0} → Statistics → List (Value A)
statistics_values s =
    number s.bsize
    ∷ number s.frsize
    ∷ number s.blocks
    ∷ number s.bfree
    ∷ number s.bavail
    ∷ number s.files
    ∷ number s.ffree
    ∷ number s.namemax
    ∷ []

-- the values of rename, read, write and utimens requests, named so that contracts stay short
module _ {A : Type 0} where
  abbrev pub rename_values : A → A → ℕ → List (Value A)
  rename_values old new flags = run old ∷ run new ∷ number flags ∷ []

  abbrev pub read_values : A → ℕ → ℕ → ℕ → List (Value A)
  read_values path size offset handle = run path ∷ number size ∷ number offset ∷ number handle ∷ []

  abbrev pub write_values : A → A → ℕ → ℕ → List (Value A)
  write_values path content offset handle = run path ∷ run content ∷ number offset ∷ number handle ∷ []

  abbrev pub utimens_values : A → Timestamp → Timestamp → ℕ → List (Value A)
  utimens_values path atime mtime handle = run path ∷ time_values atime (time_values mtime (number handle ∷ []))

-- what a value says in s; a text or data that does not lie inside s is empty
abbrev pub shown_in : List ℕ → Value Part → Value (List ℕ)
shown_in s (number n) = number n
shown_in s (signed z) = signed z
shown_in s (truth b) = truth b
shown_in s (run x) = run (shown s x)
shown_in s (runs xs) = runs (map (shown s) xs)
