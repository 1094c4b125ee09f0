-- The refusals that come before the fields, and what a header leads to. Assumes nothing.
use mathlib.Core.Path.{◌≡◌, refl, ◌∙◌}
use mathlib.Core.Bool.{Bool, cond}
use mathlib.Core.List.{List}
use Prim.Native.Nat.{ℕ, ◌≤◌, ◌<◌}
use native.Mathlib.Omega.{arith}
use lib.ListN.{length, take, drop}
use borrow.Author.Tests.{lt-ltb, le-ltb, ne_eqb}
use Rattle.number.specs.BigEndian.{be}
use Rattle.method.specs.Methods.{unknown as no-method, of_reply}
use Rattle.layout.specs.Refusals.{truncated_header, oversize, unexpected_type}
use Rattle.layout.specs.Limits.{header_size, longest}
use Rattle.layout.specs.Table.{Side, reply, unknown_response, plan}
use Rattle.layout.specs.Reading.{Answer, refused, accepted, Shape, type_place, message_at, behind_header, read}
use Rattle.layout.specs.Values.{Part, Value}
use Rattle.layout.specs.Front.{id_of, type_of}
use Rattle.layout.proofs.Trace.{NumHere, num-reads, message-traced}

module _ (side : Side) (m : List ℕ) where
  -- fewer bytes than the header has
  pub read-truncated-header : length m < header_size → read side m ≡ refused truncated_header 0
  unfolding read
  read-truncated-header h = rw (lt-ltb (length m) header_size (omega arith))

  -- more than the longest message has
  pub read-oversize : longest < length m → read side m ≡ refused oversize 0
  unfolding read
  read-oversize h = rw (le-ltb (length m) header_size (omega arith), lt-ltb longest (length m) (omega arith))

  -- what is accepted is not longer
  pub accepted-short : {s : Shape} {i t k : ℕ} {vs : List (Value Part)} → read side m ≡ accepted s i t vs k → length m ≤ longest
  accepted-short e = (message-traced e).short

  -- otherwise id and type lead on
  pub read-header : header_size ≤ length m → length m ≤ longest → read side m ≡ behind_header side (id_of m) (type_of m) m
  unfolding read message_at
  read-header h l =
      let id : NumHere 4 m 0 (id_of m) = record { fits = omega arith; is = refl } in
      let type : NumHere 1 m type_place (type_of m) = record { fits = h; is = refl } in
      rw (le-ltb (length m) header_size (omega arith), le-ltb longest (length m) (omega arith), num-reads id, num-reads type)

-- the type of no reply
pub read-unexpected : (m : List ℕ) → header_size ≤ length m → length m ≤ longest → (type_of m ≡ unknown_response → ⊥) → of_reply (type_of m) ≡ no-method
    → read reply m ≡ refused unexpected_type type_place
unfolding plan
read-unexpected m h l n e = read-header reply m h l ∙ rw (ne_eqb (type_of m) unknown_response n, e)
