-- Demand 3 as a claim about answers: what the functions answered to two messages.
use Rattle.std.specs.Prelude.{ℕ, ◌≤◌, ◌<◌, ◌≡◌, Bool, true, false, ◌&&◌, List, [], ◌∷◌, ◌++◌, eqb, length, take, drop}
use Prim.Native.String.{String}
use Rattle.method.specs.Methods.{unknown as no-method, of_request}
use Rattle.layout.specs.Limits.{header_size, longest}
use Rattle.layout.specs.Table.{Side, request, reply}
use Rattle.layout.specs.Values.{Part, Value}
use Rattle.layout.specs.Reading.{Shape, Answer, accepted, read}
use Rattle.layout.specs.Pieces.{total, pieces, cut_answer, Agree}
use Rattle.layout.specs.Parts.{nothing, part_named}
use Rattle.layout.specs.Front.{id_of, type_of, unknown_reply, stored, settle, front}
use Rattle.layout.specs.Demand3.{cut_call}
use Rattle.wire.specs.Runs.{shown}
use Rattle.request_reader.specs.Answers as requests
use Rattle.reply_reader.specs.Answers as replies
use Rattle.names.specs.Positions.{step_of, name_of, nth_name}
use Rattle.names_iterator.specs.Iterating.{NthStep}
use Rattle.front.specs.Acts.{act_of, Fronts}
use Rattle.agreement.specs.declared.Seen.{Seen}
use Rattle.agreement.specs.declared.Looks.{Looks}

-- ---- the same bytes

abbrev pub eq_bytes : List ℕ → List ℕ → Bool
eq_bytes [] [] = true
eq_bytes [] (y ∷ ys) = false
eq_bytes (x ∷ xs) [] = false
eq_bytes (x ∷ xs) (y ∷ ys) = eqb x y && eq_bytes xs ys

-- each part of these names, shown in m by its answer a and in n by its answer b
abbrev pub same_parts : Side → List String → List ℕ → Answer → List ℕ → Answer → Bool
same_parts side [] m a n b = true
same_parts side (x ∷ []) m a n b = eq_bytes (shown m (part_named side x a)) (shown n (part_named side x b))
same_parts side (x ∷ y ∷ xs) m a n b = eq_bytes (shown m (part_named side x a)) (shown n (part_named side x b)) && same_parts side (y ∷ xs) m a n b

-- the parts that `request_parts` and `reply_parts` show
abbrev pub request_parts : List String
request_parts = "path" ∷ "target" ∷ "linkpath" ∷ "old_path" ∷ "new_path" ∷ "data" ∷ []

abbrev pub reply_parts : List String
reply_parts = "resolved" ∷ "data" ∷ "creds" ∷ []

-- ---- a look

-- what was answered about m, with the buffer out, which became after
pub record Sees (m : List ℕ) (c : ℕ) (out after : List ℕ) (r : Seen) : Type 0 where
  pub request : requests.answer_of r.request ≡ read request m
  pub reply : replies.answer_of m r.reply ≡ read reply m
  pub moves : NthStep c m r.moved
  pub fronts : Fronts (front m out) after r.fronted

-- the answer of the reader of a side
abbrev pub answered : Side → List ℕ → Seen → Answer
answered request m r = requests.answer_of r.request
answered reply m r = replies.answer_of m r.reply

-- whether the parts of a side were shown with the same bytes
abbrev pub parts_same : Side → Looks → Bool
parts_same request r = r.same_request_parts
parts_same reply r = r.same_reply_parts

-- the name that the iterator gave
abbrev pub given : Seen → Part
given r = name_of (step_of r.moved.step)

-- ---- two looks

-- the layout accepts the message on this side
abbrev pub Accepts : Side → List ℕ → Shape → ℕ → ℕ → List (Value Part) → ℕ → Type 0
Accepts side m s i t vs k = read side m ≡ accepted s i t vs k

-- the second message agrees with the first in the known part, and is no longer than allowed: the same answer, the same bytes of text and
-- data, the same name, and the same act of the front in the same buffer
pub record Same (side : Side) (m n out other out' other' : List ℕ) (r : Looks) : Type 0 where
  pub answers : answered side n r.second ≡ answered side m r.first
  pub parts : parts_same side r ≡ true
  pub names : side ≡ reply → given r.second ≡ given r.first
  pub name-bytes : side ≡ reply → r.same_name ≡ true
  pub acts : side ≡ request → other ≡ out → act_of r.second.fronted ≡ act_of r.first.fronted
  pub buffers : side ≡ request → other ≡ out → other' ≡ out'

-- the second message is the first j bytes of the first: the refusal of the first number or run that is not whole, no name, and the act
-- of the front for it
pub record Cut (side : Side) (n other other' : List ℕ) (b : Seen) (s : Shape) (i t : ℕ) (vs : List (Value Part)) (j : ℕ) : Type 0 where
  pub answers : answered side n b ≡ cut_answer j (pieces side s t vs)
  pub names : side ≡ reply → given b ≡ nothing
  pub fronts : side ≡ request → Fronts (settle (cut_call j i t) other) other' b.fronted

-- the looks r at m and n, with the buffers out and other, which became out' and other'
pub record Agrees (m n : List ℕ) (c : ℕ) (out other out' other' : List ℕ) (r : Looks) : Type 0 where
  -- each look by itself, and what was compared
  pub first : Sees m c out out' r.first
  pub second : Sees n c other other' r.second
  pub request-parts : r.same_request_parts ≡ same_parts request request_parts m (read request m) n (read request n)
  pub reply-parts : r.same_reply_parts ≡ same_parts reply reply_parts m (read reply m) n (read reply n)
  pub name-shown : r.same_name ≡ eq_bytes (shown m (nth_name c m)) (shown n (nth_name c n))
  -- the known length is the sum of the pieces
  pub sizes : (side : Side) {s : Shape} {i t k : ℕ} {vs : List (Value Part)} → Accepts side m s i t vs k → k ≡ total (pieces side s t vs)
  -- whatever stands behind the known part
  pub same : (side : Side) {s : Shape} {i t k : ℕ} {vs : List (Value Part)} → Accepts side m s i t vs k → Agree k m n → length n ≤ longest
      → Same side m n out other out' other' r
  -- at whichever byte the known part is cut
  pub cut : (side : Side) {s : Shape} {i t k : ℕ} {vs : List (Value Part)} → Accepts side m s i t vs k → (j : ℕ) → j < k → n ≡ take j m
      → Cut side n other other' r.second s i t vs j
  -- a request of none of the 23 types gets the unknown response with its own id
  pub unknown : header_size ≤ length m → of_request (type_of m) ≡ no-method → header_size ≤ length out
      → (act_of r.first.fronted ≡ stored header_size) × (out' ≡ unknown_reply (id_of m) ++ drop header_size out)
