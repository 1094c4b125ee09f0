-- Text in lines: numbers in decimal, names and values, and what adding lines at a cursor means.
use Rattle.std.specs.Prelude.{ℕ, zero, suc, ◌^◌, ◌≡◌, cond, List, [], ◌∷◌, ◌++◌, ltb, ℤ, pos, negsuc, take}
use Rattle.io.specs.Counts.{IsPrefixLen}
use Rattle.io.specs.Digits.{last_digits}
use Rattle.text.specs.Ascii.{ascii}
use Rattle.wire.specs.declared.Cursor.{Cursor}
use Rattle.wire.specs.declared.Timestamp.{Timestamp}
use Rattle.field_writer.specs.Stored.{Puts, concat}

-- the first of k, k + 1, .. that is enough digits for n; the last of f steps is taken untested
abbrev pub places : ℕ → ℕ → ℕ → ℕ
places zero k n = k
places (suc f) k n = cond (ltb n (10 ^ k)) k (places f (suc k) n)

-- a number in decimal: the fewest digits, and one at least
unfoldable pub decimal : ℕ → List ℕ
decimal n = last_digits 10 (places n 1 n) n

-- the most digits of a number of 64 bits
abbrev pub most_digits : ℕ
most_digits = 20

-- with its sign, where it is negative
abbrev pub integer : ℤ → List ℕ
integer (pos n) = decimal n
integer (negsuc n) = ascii "-" ++ decimal (suc n)

-- a line: its words, a space between two, and a line end
abbrev pub Line : Type 0
Line = List (List ℕ)

abbrev pub line_text : Line → List ℕ
line_text [] = ascii "\n"
line_text (w ∷ []) = w ++ ascii "\n"
line_text (w ∷ v ∷ ws) = w ++ (ascii " " ++ line_text (v ∷ ws))

abbrev pub text : List Line → List ℕ
text [] = []
text (l ∷ ls) = line_text l ++ text ls

-- a name and a value: a space between them, and the byte x behind them
abbrev pub entry : List ℕ → List ℕ → ℕ → List ℕ
entry name value x = name ++ (ascii " " ++ (value ++ (x ∷ [])))

-- two names with a number each: the byte x behind the first number, a line end behind the second
abbrev pub entries_text : List ℕ → ℕ → ℕ → List ℕ → ℕ → List ℕ
entries_text first a x second b = entry first (decimal a) x ++ line_text (second ∷ decimal b ∷ [])

-- a timestamp: a line of its seconds and one of its nanoseconds, under these names
abbrev pub time_text : List ℕ → List ℕ → Timestamp → List ℕ
time_text seconds nsec t = text ((seconds ∷ decimal t.seconds ∷ []) ∷ (nsec ∷ decimal t.nsec ∷ []) ∷ [])

-- s begins with the bytes e, k of them
pub record Begins (s e : List ℕ) (k : ℕ) : Type 0 where
  pub is : take k s ≡ e
  pub counts : IsPrefixLen k s

-- the text of these lines at c, in pieces one after another, each of them whole or refused; d is behind them
pub record AddsLines (l : List ℕ) (c : Cursor) (ls : List Line) (m : List ℕ) (d : Cursor) : Type 0 where
  pub pieces : List (List ℕ)
  pub puts : Puts l c pieces m d
  pub are : concat pieces ≡ text ls
