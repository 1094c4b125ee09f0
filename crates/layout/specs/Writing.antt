-- Writing a message: its bytes, and what a writer answers and leaves in the lent buffer, for every input.
use Rattle.std.specs.Prelude.{ℕ, ◌+◌, Bool, true, false, not, ◌&&◌, cond, List, [], ◌∷◌, ◌++◌, leb, eqb, ℤ, pos, negsuc, length, take, drop}
use Rattle.number.specs.BigEndian.{bytes_of}
use Rattle.number.specs.TwosComplement.{bits_of}
use Rattle.text.specs.Utf8.{well_formed}
use Rattle.method.specs.declared.Method.TheVariants.{Readdir}
use Rattle.method.specs.Methods.{reply_number}
use Rattle.layout.specs.Kinds.{Num, width, Kind, num, string, bytes, strings}
use Rattle.layout.specs.Refusals.{oversize, unexpected_type, malformed_text, data_length_mismatch, buffer_too_small, result_sign, lengths_mismatch}
use Rattle.layout.specs.Limits.{longest}
use Rattle.layout.specs.Table.{Side, reply, Plan, unexpected, header, asked, plain, led, plan}
use Rattle.layout.specs.Values.{Value, number, signed, truth, run, runs, run_of, runs_of}
use Rattle.layout.specs.Reading.{Shape, unknown, known, failure, success}
use Rattle.layout.specs.Pieces.{kinds_of}

-- ---- the bytes

-- true is written as 1
abbrev pub bit : Bool → ℕ
bit true = 1
bit false = 0

-- the number that is written for a value
abbrev pub bits : Num → Value (List ℕ) → ℕ
bits k (number n) = n
bits k (signed z) = bits_of (width k) z
bits k (truth b) = bit b
bits k (run s) = 0
bits k (runs ss) = 0

-- a length, then the bytes
abbrev pub sized : List ℕ → List ℕ
sized s = bytes_of 4 (length s) ++ s

abbrev pub sized_all : List (List ℕ) → List ℕ
sized_all [] = []
sized_all (s ∷ ss) = sized s ++ sized_all ss

abbrev pub encode : Kind → Value (List ℕ) → List ℕ
encode (num k) v = bytes_of (width k) (bits k v)
encode string v = sized (run_of [] v)
encode bytes v = sized (run_of [] v)
encode strings v = bytes_of 4 (length (runs_of v)) ++ sized_all (runs_of v)

abbrev pub encode_all : List Kind → List (Value (List ℕ)) → List ℕ
encode_all [] vs = []
encode_all (k ∷ ks) [] = []
encode_all (k ∷ ks) (v ∷ vs) = encode k v ++ encode_all ks vs

unfoldable pub encode_message : Side → Shape → ℕ → ℕ → List (Value (List ℕ)) → List ℕ
encode_message side s i t vs = bytes_of 4 i ++ (bytes_of 1 t ++ encode_all (kinds_of (plan side t) s) vs)

-- ---- the checks

-- a message of this type can have this shape
abbrev pub has_shape : Plan → Shape → Bool
has_shape unexpected s = false
has_shape header unknown = true
has_shape header known = false
has_shape header failure = false
has_shape header success = false
has_shape (asked ks) unknown = false
has_shape (asked ks) known = true
has_shape (asked ks) failure = false
has_shape (asked ks) success = false
has_shape (plain ks) unknown = false
has_shape (plain ks) known = false
has_shape (plain ks) failure = false
has_shape (plain ks) success = true
has_shape (led c ks) unknown = false
has_shape (led c ks) known = false
has_shape (led c ks) failure = true
has_shape (led c ks) success = true

-- the first value is a negative number
abbrev pub negative : List (Value (List ℕ)) → Bool
negative [] = false
negative (signed (negsuc n) ∷ vs) = true
negative (signed (pos n) ∷ vs) = false
negative (number n ∷ vs) = false
negative (truth b ∷ vs) = false
negative (run s ∷ vs) = false
negative (runs ss ∷ vs) = false

-- a failure has a negative result, and a success with a result has none that is negative
abbrev pub sign_right : Plan → Shape → List (Value (List ℕ)) → Bool
sign_right unexpected s vs = true
sign_right header s vs = true
sign_right (asked ks) s vs = true
sign_right (plain ks) s vs = true
sign_right (led c ks) unknown vs = true
sign_right (led c ks) known vs = true
sign_right (led c ks) failure vs = negative vs
sign_right (led c ks) success vs = not (negative vs)

abbrev pub all_well_formed : List (List ℕ) → Bool
all_well_formed [] = true
all_well_formed (s ∷ ss) = well_formed s && all_well_formed ss

abbrev pub text_right : Kind → Value (List ℕ) → Bool
text_right (num k) v = true
text_right string v = well_formed (run_of [] v)
text_right bytes v = true
text_right strings v = all_well_formed (runs_of v)

abbrev pub texts_right : List Kind → List (Value (List ℕ)) → Bool
texts_right [] vs = true
texts_right (k ∷ ks) [] = true
texts_right (k ∷ ks) (v ∷ vs) = text_right k v && texts_right ks vs

-- the length of the data of a read reply
abbrev pub data_length : List (Value (List ℕ)) → ℕ
data_length [] = 0
data_length (v ∷ vs) = length (run_of [] v)

-- the result is the length of the data behind it
abbrev pub counts : List (Value (List ℕ)) → Bool
counts [] = true
counts (signed (pos n) ∷ vs) = eqb n (data_length vs)
counts (signed (negsuc n) ∷ vs) = false
counts (number n ∷ vs) = true
counts (truth b ∷ vs) = true
counts (run s ∷ vs) = true
counts (runs ss ∷ vs) = true

abbrev pub count_right : Plan → Shape → List (Value (List ℕ)) → Bool
count_right unexpected s vs = true
count_right header s vs = true
count_right (asked ks) s vs = true
count_right (plain ks) s vs = true
count_right (led false ks) s vs = true
count_right (led true ks) unknown vs = true
count_right (led true ks) known vs = true
count_right (led true ks) failure vs = true
count_right (led true ks) success vs = counts vs

-- ---- the outcome

-- so many bytes were stored, or a refusal with its number and place
pub data Told : Type 0 where
  stored : ℕ → Told
  refused : ℕ → ℕ → Told

-- the length that a writer reports: 0 where it refused
abbrev pub length_of : Told → ℕ
length_of (stored n) = n
length_of (refused n p) = 0

-- the answer, and the lent buffer afterwards
pub record WriteOutcome : Type 0 where
  pub told : Told
  pub buffer : List ℕ

abbrev pub refuse : ℕ → List ℕ → WriteOutcome
refuse n out = record { told = refused n 0; buffer = out }

-- go on where the test holds, else refuse with this number and leave the buffer
abbrev pub check : ℕ → Bool → List ℕ → WriteOutcome → WriteOutcome
check n t out w = cond t w (refuse n out)

-- the bytes in front of what stays of the buffer
abbrev pub store : List ℕ → List ℕ → WriteOutcome
store e out = record { told = stored (length e); buffer = e ++ drop (length e) out }

-- the bytes, where they are not too many and fit
unfoldable pub store_checked : List ℕ → List ℕ → WriteOutcome
store_checked e out = check oversize (leb (length e) longest) out (check buffer_too_small (leb (length e) (length out)) out (store e out))

-- the writer of requests and of replies. `summed`: the lengths of names sum to their run; true where there are no names
unfoldable pub write : Side → Shape → ℕ → ℕ → List (Value (List ℕ)) → Bool → List ℕ → WriteOutcome
write side s i t vs summed out =
    let p = plan side t in
    check unexpected_type (has_shape p s) out
    (check result_sign (sign_right p s vs) out
    (check lengths_mismatch summed out
    (check malformed_text (texts_right (kinds_of p s) vs) out
    (check data_length_mismatch (count_right p s vs) out
    (store_checked (encode_message side s i t vs) out)))))

-- names given as one run and a list of lengths
abbrev pub split : List ℕ → List ℕ → List (List ℕ)
split [] s = []
split (n ∷ ns) s = take n s ∷ split ns (drop n s)

abbrev pub sum : List ℕ → ℕ
sum [] = 0
sum (n ∷ ns) = n + sum ns

unfoldable pub write_names : ℕ → ℤ → List ℕ → List ℕ → List ℕ → WriteOutcome
write_names i r ns s out = write reply success i (reply_number Readdir) (signed r ∷ runs (split ns s) ∷ []) (eqb (sum ns) (length s)) out
