-- What a host is shown, in numbers: the answer of a reader, a step over names, what a writer and the front tell.
use Rattle.std.specs.Prelude.{ℕ, zero, suc, List, [], ◌∷◌, ◌++◌, length}
use Rattle.number.specs.TwosComplement.{bits_of}
use Rattle.layout.specs.Values.{Part, Value, number, signed, truth, run, runs}
use Rattle.layout.specs.Reading.{Shape, unknown, known, failure, success, Answer, refused, accepted}
use Rattle.layout.specs.Names.{Step, name, ended, first_name}
use Rattle.layout.specs.Writing.{bit}
use Rattle.layout.specs.Writing as writing
use Rattle.layout.specs.Front as fronting
use Rattle.exports.specs.declared.TushaletsReading.{TushaletsReading}
use Rattle.exports.specs.declared.TushaletsName.{TushaletsName}
use Rattle.exports.specs.declared.TushaletsWritten.{TushaletsWritten}
use Rattle.exports.specs.declared.TushaletsFronted.{TushaletsFronted}

-- the version of the exported functions, their arguments and their answers
abbrev pub version : ℕ
version = 3

-- ---- a reading

-- the cells of a value: a number; the 32 bits of a signed one; 0 or 1 of a bool; start and length of a text or data; of names the place
-- of the first and how many there are, which is the position that the first step goes from
abbrev pub cells : Value Part → List ℕ
cells (number n) = n ∷ []
cells (signed z) = bits_of 4 z ∷ []
cells (truth b) = bit b ∷ []
cells (run x) = x.start ∷ x.size ∷ []
cells (runs xs) = first_name ∷ length xs ∷ []

abbrev pub all_cells : List (Value Part) → List ℕ
all_cells [] = []
all_cells (v ∷ vs) = cells v ++ all_cells vs

-- the first n of these cells, and zeros where they are fewer
abbrev pub padded : ℕ → List ℕ → List ℕ
padded zero xs = []
padded (suc n) [] = 0 ∷ padded n []
padded (suc n) (x ∷ xs) = x ∷ padded n xs

-- the cells of an answer: a getattr reply has 15, and two are spare
abbrev pub cell_count : ℕ
cell_count = 17

abbrev pub field_cells : List (Value Part) → List ℕ
field_cells vs = padded cell_count (all_cells vs)

abbrev pub shape_number : Shape → ℕ
shape_number unknown = 1
shape_number known = 2
shape_number failure = 3
shape_number success = 4

-- a message that was accepted, by shape, id, type, known length and cells
abbrev pub accepting : ℕ → ℕ → ℕ → ℕ → List ℕ → TushaletsReading
accepting s i t k cs = record { shape = s; number = 0; id = i; type_number = t; place = 0; known = k; fields = cs }

abbrev pub reading_of : Answer → TushaletsReading
reading_of (refused n p) = record { shape = 0; number = n; id = 0; type_number = 0; place = p; known = 0; fields = field_cells [] }
reading_of (accepted s i t vs k) = accepting (shape_number s) i t k (field_cells vs)

-- ---- the other answers

abbrev pub name_of : Step → TushaletsName
name_of (name x w) = record { found = 1; left = w.left; start = x.start; len = x.size; at = w.at }
name_of (ended w) = record { found = 0; left = w.left; start = 0; len = 0; at = w.at }

abbrev pub written_of : writing.Told → TushaletsWritten
written_of (writing.stored n) = record { number = 0; len = n; place = 0 }
written_of (writing.refused n p) = record { number = n; len = 0; place = p }

abbrev pub fronted_of : fronting.Act → TushaletsFronted
fronted_of fronting.handed-on = record { act = 0; number = 0; len = 0; place = 0 }
fronted_of (fronting.stored n) = record { act = 1; number = 0; len = n; place = 0 }
fronted_of (fronting.refused n p) = record { act = 2; number = n; len = 0; place = p }
