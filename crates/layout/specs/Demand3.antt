-- Demand 3 as one claim: what every accepted message keeps, over both readers, the names iterator, the front and every type.
use Rattle.std.specs.Prelude.{ℕ, ◌≤◌, ◌<◌, ◌≡◌, cond, List, [], ◌++◌, map, ltb, length, take, drop}
use Rattle.method.specs.Methods.{unknown as no-method, of_request}
use Rattle.layout.specs.Refusals.{truncated_header}
use Rattle.layout.specs.Limits.{header_size, longest}
use Rattle.layout.specs.Table.{Side, request, reply}
use Rattle.layout.specs.Values.{Part, Value, bytes_in, contents}
use Rattle.layout.specs.Reading.{Shape, accepted, read}
use Rattle.layout.specs.Pieces.{total, pieces, cut_answer, Agree}
use Rattle.layout.specs.Names.{opened, steps}
use Rattle.layout.specs.Front.{id_of, type_of, unknown_reply, invalid_reply, Call, refuse-with, reply-with, stored, FrontOutcome, done, settle, front}

-- what the front does with the first j bytes of a request: a truncated header, or invalid
abbrev pub cut_call : ℕ → ℕ → ℕ → Call
cut_call j i t = cond (ltb j header_size) (refuse-with truncated_header) (reply-with (invalid_reply i t))

-- what the message m keeps, that was accepted with these values and this known length
pub record Kept (side : Side) (m : List ℕ) (s : Shape) (i t : ℕ) (vs : List (Value Part)) (known : ℕ) : Type 0 where
  -- the known length is the sum of the sizes
  pub size : known ≡ total (pieces side s t vs)
  pub inside : known ≤ length m
  -- whatever stands behind the known part: the same answer, the same bytes of text and data, the same names, the same act of the front
  pub answers : (m' : List ℕ) → Agree known m m' → length m' ≤ longest → read side m' ≡ accepted s i t vs known
  pub bytes : (m' : List ℕ) → Agree known m m' → contents m' vs ≡ contents m vs
  pub names : side ≡ reply → (m' : List ℕ) → Agree known m m' → length m' ≤ longest → (n : ℕ)
      → map (bytes_in m') (steps n m' (opened m')) ≡ map (bytes_in m) (steps n m (opened m))
  pub fronts : side ≡ request → (m' : List ℕ) → Agree known m m' → length m' ≤ longest → (out : List ℕ) → front m' out ≡ front m out
  -- wherever the known part is cut: the refusal of the first number or run that is no longer whole, no names, and the front's act
  pub cut : (j : ℕ) → j < known → read side (take j m) ≡ cut_answer j (pieces side s t vs)
  pub cut-names : side ≡ reply → (j : ℕ) → j < known → (n : ℕ) → steps n (take j m) (opened (take j m)) ≡ []
  pub cut-front : side ≡ request → (j : ℕ) → j < known → (out : List ℕ) → front (take j m) out ≡ settle (cut_call j i t) out

pub record Demand3 : Type 0 where
  pub accepts : (side : Side) (m : List ℕ) (s : Shape) (i t : ℕ) (vs : List (Value Part)) (known : ℕ)
      → read side m ≡ accepted s i t vs known → Kept side m s i t vs known
  -- a request of five bytes or more whose type is none of the 23, with a buffer of five bytes or more
  pub unknown : (m out : List ℕ) → header_size ≤ length m → of_request (type_of m) ≡ no-method → header_size ≤ length out
      → front m out ≡ done (stored header_size) (unknown_reply (id_of m) ++ drop header_size out)
