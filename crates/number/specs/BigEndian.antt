-- Big-endian numbers: the most significant byte first. One definition for every width w, in bytes.
use Rattle.std.specs.Prelude.{ℕ, zero, suc, ◌+◌, ◌*◌, ◌/◌, ◌%◌, ◌^◌, ◌<◌, ◌≡◌, Bool, cond, List, [], ◌∷◌, ◌++◌, leb, length, get_or, take, drop}

-- the number that the bytes are, where n was read before them
abbrev pub be_after : ℕ → List ℕ → ℕ
be_after n [] = n
be_after n (b ∷ bs) = be_after (n * 256 + b) bs

-- the number that the bytes are
unfoldable pub be : List ℕ → ℕ
be bs = be_after 0 bs

-- the w bytes of x
unfoldable pub bytes_of : ℕ → ℕ → List ℕ
bytes_of zero x = []
bytes_of (suc w) x = x / 256 ^ w % 256 ∷ bytes_of w x

-- each element is a byte
abbrev pub Bytes : List ℕ → Type 0
Bytes bs = (i : ℕ) → get_or bs i 0 < 256

-- what reading a number finds: the number, or too few bytes for it
pub data Found : Type 0 where
  whole : ℕ → Found
  truncated : Found

-- the number in the w bytes from place at; no place and no list is left out
unfoldable pub number_at : ℕ → List ℕ → ℕ → Found
number_at w s at = cond (leb (at + w) (length s)) (whole (be (take w (drop at s)))) truncated

-- the list with the bytes bs from place at instead of as many of its own
unfoldable pub overwritten : List ℕ → ℕ → List ℕ → List ℕ
overwritten l at bs = take at l ++ bs ++ drop (at + length bs) l

-- storing the w bytes of x at place at of l left m and answered r: true where they fit; else nothing was stored
pub record Stores (w : ℕ) (l : List ℕ) (at x : ℕ) (m : List ℕ) (r : Bool) : Type 0 where
  pub fits : r ≡ leb (at + w) (length l)
  pub leaves : m ≡ cond r (overwritten l at (bytes_of w x)) l
