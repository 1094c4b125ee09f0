-- The longest of a reply's names.
use Rattle.std.specs.Prelude.{ℕ, cond, List, [], ◌∷◌, leb, length}
use Rattle.layout.specs.Values.{Part}
use Rattle.layout.specs.Names.{names_of}
use Rattle.layout.specs.Reading.{read}
use Rattle.layout.specs.Table.{reply}
use Rattle.wire.specs.Runs.{shown}

abbrev pub greater : ℕ → ℕ → ℕ
greater a b = cond (leb b a) a b

-- the greatest of n and the lengths of these parts of m
abbrev pub longest : List ℕ → ℕ → List Part → ℕ
longest m n [] = n
longest m n (x ∷ xs) = longest m (greater n (length (shown m x))) xs

-- the length of the longest name of a message; 0 where it has none
abbrev pub longest_name : List ℕ → ℕ
longest_name m = longest m 0 (names_of (read reply m))
