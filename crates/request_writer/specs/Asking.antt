-- What writing a request means.
use Rattle.std.specs.Prelude.{ℕ, ◌+◌, Bool, true, ◌&&◌, List, [], ◌∷◌, ◌++◌, map, length}
use Rattle.std.specs.Borrow.{Bor, MutBor}
use Rattle.number.specs.BigEndian.{bytes_of}
use Rattle.method.specs.declared.Method.{Method}
use Rattle.method.specs.Methods.{request_number}
use Rattle.layout.specs.Kinds.{u32, width}
use Rattle.layout.specs.Limits.{header_size}
use Rattle.layout.specs.Table.{request}
use Rattle.layout.specs.Values.{Value}
use Rattle.layout.specs.Reading.{known, valid_by}
use Rattle.layout.specs.Writing.{WriteOutcome, write, sized}
use Rattle.wire.specs.declared.Cursor.{Cursor}
use Rattle.field_writer.specs.Stored.{Puts}
use Rattle.message_writer.specs.Writers.{admitted}

-- the request of a method with this id and these values, in this buffer
abbrev pub asking : Method → ℕ → List (Value (List ℕ)) → List ℕ → WriteOutcome
asking m i vs out = write request known i (request_number m) vs true out

-- the header and the runs ss of a request of `size` bytes were stored into l, which became m, where it passes the checks, and d is behind
-- them. `right`: its texts are well-formed
pub record RequestStarted (right : Bool) (ss : List (List ℕ)) (size i t : ℕ) (l m : List ℕ) (d : Cursor) : Type 0 where
  pub is : Puts l (admitted right size (length l)) ((bytes_of 4 i ++ bytes_of 1 t) ∷ map sized ss) m d

-- the bytes of a request with one run, and with two, whose numbers take w bytes
abbrev pub run_size : List ℕ → ℕ → ℕ
run_size s w = length s + 0 + (header_size + width u32 + w)

abbrev pub runs_size : List ℕ → List ℕ → ℕ → ℕ
runs_size s u w = length s + length u + (header_size + width u32 + width u32 + w)

-- such a request began in a lent buffer; its first run is looked at as a text, and a second one where it is marked as text
abbrev pub RunStarted : Bor (List ℕ) → ℕ → ℕ → ℕ → MutBor (List ℕ) → MutBor (List ℕ) → Cursor → Type 0
RunStarted s w i t before after =
    RequestStarted (valid_by true s.now) (s.now ∷ []) (run_size s.now w) i t before.now after.now

abbrev pub RunsStarted : Bor (List ℕ) → Bool → Bor (List ℕ) → ℕ → ℕ → ℕ → MutBor (List ℕ) → MutBor (List ℕ) → Cursor → Type 0
RunsStarted s is_text u w i t before after =
    RequestStarted (valid_by true s.now && valid_by is_text u.now) (s.now ∷ u.now ∷ []) (runs_size s.now u.now w) i t before.now after.now
