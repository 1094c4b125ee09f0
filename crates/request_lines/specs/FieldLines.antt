-- The lines of a message's fields, and what adding those of a request means.
use Rattle.std.specs.Prelude.{ℕ, List, [], ◌∷◌, length}
use Rattle.text.specs.Ascii.{ascii}
use Rattle.method.specs.declared.Method.{Method}
use Rattle.layout.specs.Kinds.{Field}
use Rattle.layout.specs.Table.{row}
use Rattle.layout.specs.Values.{Part, Value, number, signed, truth, run, runs}
use Rattle.layout.specs.Writing.{bit}
use Rattle.wire.specs.declared.Cursor.{Cursor}
use Rattle.lines.specs.Lines.{decimal, integer, Line, AddsLines}

-- a value: a number in decimal, a bool as 0 or 1, text and bytes as their length, names as their count
abbrev pub shown : Value Part → List ℕ
shown (number n) = decimal n
shown (signed z) = integer z
shown (truth b) = decimal (bit b)
shown (run x) = decimal x.size
shown (runs xs) = decimal (length xs)

-- one line a field: its name and its value
abbrev pub field_lines : List Field → List (Value Part) → List Line
field_lines [] vs = []
field_lines (f ∷ fs) [] = []
field_lines (f ∷ fs) (v ∷ vs) = (ascii f.name ∷ shown v ∷ []) ∷ field_lines fs vs

-- the fields of a method's request with these values
abbrev pub AddsFields : List ℕ → Cursor → Method → List (Value Part) → List ℕ → Cursor → Type 0
AddsFields l c x vs n d = AddsLines l c (field_lines (row x).request vs) n d
