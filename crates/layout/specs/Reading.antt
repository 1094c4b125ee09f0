-- Reading a message, request or reply: the header, then field by field from left to right, at places of the message itself.
use Rattle.std.specs.Prelude.{ℕ, zero, suc, ◌+◌, Bool, true, false, not, cond, List, [], ◌∷◌, leb, ltb, eqb, ℤ, pos, negsuc, length, take, drop}
use Rattle.number.specs.BigEndian.{Found, whole, truncated as too_few, number_at}
use Rattle.number.specs.TwosComplement.{signed_of}
use Rattle.text.specs.Utf8.{well_formed_end, well_formed}
use Rattle.layout.specs.Kinds.{Num, u8, i8, u32, i32, u64, bool, width, Kind, num, string, bytes, strings}
use Rattle.layout.specs.Refusals.{truncated_header, oversize, unexpected_type, truncated, malformed_text, data_length_mismatch}
use Rattle.layout.specs.Limits.{header_size, longest}
use Rattle.layout.specs.Table.{Side, Plan, unexpected, header, asked, plain, led, plan}
use Rattle.layout.specs.Values.{Part, part, Value, number, signed, truth, run, runs, run_of}

-- what reading at a place comes to: a value and the next place, or a refusal with its number and place
pub data Outcome (A : Type 0) : Type 0 where
  got : A → ℕ → Outcome A
  fail : ℕ → ℕ → Outcome A

abbrev pub Reader : Type 0 → Type 0
Reader A = List ℕ → ℕ → Outcome A

abbrev pub followed : {A B : Type 0} → Outcome A → (A → ℕ → Outcome B) → Outcome B
followed (got a q) k = k a q
followed (fail n p) k = fail n p

-- one reader, and the next where it ended
abbrev pub seq : {A B : Type 0} → Reader A → (A → Reader B) → Reader B
seq r k m p = followed (r m p) (λ a q. k a m q)

abbrev pub give : {A : Type 0} → A → Reader A
give a m p = got a p

abbrev pub mapped : {A B : Type 0} → (A → B) → Reader A → Reader B
mapped f r = seq r (λ a. give (f a))

-- a number of w bytes, refused where it begins if it does not fit
abbrev pub num_outcome : ℕ → ℕ → Found → Outcome ℕ
num_outcome w p (whole n) = got n (p + w)
num_outcome w p too_few = fail truncated p

unfoldable pub num_at : ℕ → Reader ℕ
num_at w m p = num_outcome w p (number_at w m p)

-- where the n bytes at p are no longer well-formed text: behind the whole characters that they begin with (document 02, Item 2)
abbrev pub malformed_place : ℕ → List ℕ → ℕ → ℕ
malformed_place n m p = p + well_formed_end (take n (drop p m))

-- a run of n bytes, refused where it begins if it does not fit, and then, if its bytes are not valid, as those of text may be, where they break
unfoldable pub run_at : (List ℕ → Bool) → ℕ → Reader Part
run_at valid n m p =
    cond (leb (p + n) (length m))
    (cond (valid (take n (drop p m))) (got (part p n) (p + n)) (fail malformed_text (malformed_place n m p)))
    (fail truncated p)

-- a length, then so many bytes
abbrev pub sized_at : (List ℕ → Bool) → Reader Part
sized_at valid = seq (num_at 4) (λ n. run_at valid n)

abbrev pub any_bytes : List ℕ → Bool
any_bytes bs = true

-- the test of a run's bytes: those of text are well-formed
abbrev pub valid_by : Bool → List ℕ → Bool
valid_by true bs = well_formed bs
valid_by false bs = any_bytes bs

abbrev pub string_at : Reader Part
string_at = sized_at well_formed

abbrev pub bytes_at : Reader Part
bytes_at = sized_at any_bytes

-- so many strings, one after another
abbrev pub strings_at : ℕ → Reader (List Part)
strings_at zero m p = got [] p
strings_at (suc n) m p = seq string_at (λ x m' q. mapped (λ xs. x ∷ xs) (strings_at n) m' q) m p

-- the value of a number; bool: 0 is false, every other byte is true
abbrev pub value_of : {A : Type 0} → Num → ℕ → Value A
value_of u8 n = number n
value_of i8 n = signed (signed_of 1 n)
value_of u32 n = number n
value_of i32 n = signed (signed_of 4 n)
value_of u64 n = number n
value_of bool n = truth (not (eqb n 0))

abbrev pub field_at : Kind → Reader (Value Part)
field_at (num k) = mapped (value_of k) (num_at (width k))
field_at string = mapped run string_at
field_at bytes = mapped run bytes_at
field_at strings = seq (num_at 4) (λ n. mapped runs (strings_at n))

abbrev pub fields_at : List Kind → Reader (List (Value Part))
fields_at [] = give []
fields_at (k ∷ ks) = seq (field_at k) (λ v. mapped (λ vs. v ∷ vs) (fields_at ks))

-- the kinds of an accepted message: an unknown request or the unknown response, a known request, a failure, a success
pub data Shape : Type 0 where
  unknown known failure success : Shape

-- what follows the header
pub record Body : Type 0 where
  pub shape : Shape
  pub values : List (Value Part)

abbrev pub body : Shape → List (Value Part) → Body
body s vs = record { shape = s; values = vs }

-- the length of the data of a read reply
abbrev pub data_size : List (Value Part) → ℕ
data_size [] = 0
data_size (v ∷ vs) = (run_of (part 0 0) v).size

-- where the result of a reply stands
abbrev pub result_place : ℕ
result_place = header_size

-- where the fields behind it begin
abbrev pub fields_place : ℕ
fields_place = result_place + width i32

-- a success; where the result counts the data, it is compared when the data is whole
abbrev pub succeeded : Bool → ℕ → List (Value Part) → Reader Body
succeeded false r vs m p = got (body success (signed (pos r) ∷ vs)) p
succeeded true r vs m p =
    cond (eqb r (data_size vs)) (got (body success (signed (pos r) ∷ vs)) p) (fail data_length_mismatch result_place)

-- a negative result ends the known part; zero or a positive one is a success, and the fields follow
abbrev pub behind_result : Bool → List Kind → ℤ → Reader Body
behind_result c ks (negsuc n) m p = got (body failure (signed (negsuc n) ∷ [])) p
behind_result c ks (pos r) m p = seq (fields_at ks) (λ vs. succeeded c r vs) m p

-- where the type stands
abbrev pub type_place : ℕ
type_place = 4

abbrev pub body_at : Plan → Reader Body
body_at unexpected m p = fail unexpected_type type_place
body_at header m p = got (body unknown []) p
body_at (asked ks) m p = mapped (body known) (fields_at ks) m p
body_at (plain ks) m p = mapped (body success) (fields_at ks) m p
body_at (led c ks) m p = seq (num_at 4) (λ n. behind_result c ks (signed_of 4 n)) m p

pub record Message : Type 0 where
  pub id : ℕ
  pub type : ℕ
  pub body : Body

abbrev pub message : ℕ → ℕ → Body → Message
message i t b = record { id = i; type = t; body = b }

unfoldable pub message_at : Side → Reader Message
message_at side = seq (num_at 4) (λ i. seq (num_at 1) (λ t. mapped (message i t) (body_at (plan side t))))

-- a refusal gives its number and place and no field; an accepted message its shape, id, type, values and known length
pub data Answer : Type 0 where
  refused : ℕ → ℕ → Answer
  accepted : Shape → ℕ → ℕ → List (Value Part) → ℕ → Answer

abbrev pub answer : Outcome Message → Answer
answer (got x k) = accepted x.body.shape x.id x.type x.body.values k
answer (fail n p) = refused n p

-- what follows a header with this id and type
abbrev pub behind_header : Side → ℕ → ℕ → List ℕ → Answer
behind_header side i t m = answer (mapped (message i t) (body_at (plan side t)) m header_size)

-- the reader of requests and of replies
unfoldable pub read : Side → List ℕ → Answer
read side m =
    cond (ltb (length m) header_size) (refused truncated_header 0)
    (cond (ltb longest (length m)) (refused oversize 0)
    (answer (message_at side m 0)))
