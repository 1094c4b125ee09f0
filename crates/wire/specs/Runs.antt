-- A part of a message, and the slice that shows it.
use Rattle.std.specs.Prelude.{ℕ, ◌+◌, ◌≡◌, cond, List, [], leb, length}
use Rattle.std.specs.Borrow.{Bor}
use Rattle.layout.specs.Values.{Part, part, bytes_in}
use Rattle.wire.specs.declared.Run.{Run}

abbrev pub part_of : Run → Part
part_of r = part r.start r.len

-- the bytes of a part of m; none where it does not lie inside m
unfoldable pub shown : List ℕ → Part → List ℕ
shown m x = cond (leb (x.start + x.size) (length m)) (bytes_in m x) []

-- where a part is shown from, in a message of n bytes; one that does not lie inside is shown as nothing at the message's start
unfoldable pub place_in : ℕ → Part → ℕ
place_in n x = cond (leb (x.start + x.size) n) x.start 0

-- the slice s is the part x of the message m itself: its bytes, and the place in memory where they stand
pub record Shows (m : Bor (List ℕ)) (x : Part) (s : Bor (List ℕ)) : Type 0 where
  pub bytes : s.now ≡ shown m.now x
  pub place : s.ref_ptr ≡ (m.ref_ptr.0, place_in (length m.now) x + m.ref_ptr.1)
