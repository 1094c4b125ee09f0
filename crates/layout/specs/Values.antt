-- The values of fields. One type for both: as read, text and data are parts of the message; as written, they are bytes.
use Rattle.std.specs.Prelude.{ℕ, ◌^◌, ◌<◌, Bool, List, [], ◌∷◌, map, ℤ, take, drop}
use Rattle.number.specs.TwosComplement.{Signed}
use Rattle.layout.specs.Kinds.{Num, u8, i8, u32, i32, u64, bool, Kind, num, string, bytes, strings}

-- a part of a message
pub record Part : Type 0 where
  pub start : ℕ
  pub size : ℕ

abbrev pub part : ℕ → ℕ → Part
part p n = record { start = p; size = n }

pub data Value (A : Type 0) : Type 0 where
  number : ℕ → Value A
  signed : ℤ → Value A
  truth : Bool → Value A
  run : A → Value A
  runs : List A → Value A

-- the text or data of a value, or the default
abbrev pub run_of : {A : Type 0} → A → Value A → A
run_of d (number n) = d
run_of d (signed z) = d
run_of d (truth b) = d
run_of d (run x) = x
run_of d (runs xs) = d

-- the names of a value
abbrev pub runs_of : {A : Type 0} → Value A → List A
runs_of (number n) = []
runs_of (signed z) = []
runs_of (truth b) = []
runs_of (run x) = []
runs_of (runs xs) = xs

-- the bytes of a part of m
abbrev pub bytes_in : List ℕ → Part → List ℕ
bytes_in m x = take x.size (drop x.start m)

-- what a value of m says, apart from places
abbrev pub content : List ℕ → Value Part → Value (List ℕ)
content m (number n) = number n
content m (signed z) = signed z
content m (truth b) = truth b
content m (run x) = run (bytes_in m x)
content m (runs xs) = runs (map (bytes_in m) xs)

abbrev pub contents : List ℕ → List (Value Part) → List (Value (List ℕ))
contents m vs = map (content m) vs

-- a value that a number field can hold
pub data NumFits : Num → Value (List ℕ) → Type 0 where
  fits-u8 : {n : ℕ} → n < 256 ^ 1 → NumFits u8 (number n)
  fits-u32 : {n : ℕ} → n < 256 ^ 4 → NumFits u32 (number n)
  fits-u64 : {n : ℕ} → n < 256 ^ 8 → NumFits u64 (number n)
  fits-i8 : {z : ℤ} → Signed 1 z → NumFits i8 (signed z)
  fits-i32 : {z : ℤ} → Signed 4 z → NumFits i32 (signed z)
  fits_bool : (b : Bool) → NumFits bool (truth b)

-- a value that a field can hold, its text not looked at
pub data Fits : Kind → Value (List ℕ) → Type 0 where
  fits-num : {k : Num} {v : Value (List ℕ)} → NumFits k v → Fits (num k) v
  fits-string : (s : List ℕ) → Fits string (run s)
  fits-bytes : (s : List ℕ) → Fits bytes (run s)
  fits-strings : (ss : List (List ℕ)) → Fits strings (runs ss)

pub data AllFit : List Kind → List (Value (List ℕ)) → Type 0 where
  none : AllFit [] []
  more : {k : Kind} {v : Value (List ℕ)} {ks : List Kind} {vs : List (Value (List ℕ))} → Fits k v → AllFit ks vs → AllFit (k ∷ ks) (v ∷ vs)
