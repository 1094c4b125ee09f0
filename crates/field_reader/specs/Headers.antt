-- What reading the header of a message means, for both sides.
use Rattle.std.specs.Prelude.{ℕ, ◌≡◌, cond, List, eqb, ltb, length}
use Rattle.layout.specs.Refusals.{truncated_header, oversize}
use Rattle.layout.specs.Limits.{header_size, longest}
use Rattle.layout.specs.Table.{Side}
use Rattle.layout.specs.Reading.{refused, behind_header, read}
use Rattle.layout.specs.Front.{id_of, type_of}
use Rattle.wire.specs.declared.Cursor.{Cursor}
use Rattle.wire.specs.declared.Header.{Header}
use Rattle.wire.specs.Cursors.{place, refusal}

-- where a message of n bytes is read on behind its header, or the refusal of the whole message
abbrev pub header_end : ℕ → Cursor
header_end n = cond (ltb n header_size) (refusal truncated_header) (cond (ltb longest n) (refusal oversize) (place header_size))

-- the header of m was read as h, and c is behind it
pub record HeaderRead (m : List ℕ) (h : Header) (c : Cursor) : Type 0 where
  pub id : h.id ≡ cond (ltb (length m) header_size) 0 (id_of m)
  pub type : h.type_number ≡ type_of m
  pub ends : c ≡ header_end (length m)
  -- the reader of either side goes on behind c, or gives the refusal that it is
  pub reads : (side : Side) → read side m ≡ cond (eqb c.code 0) (behind_header side h.id h.type_number m) (refused c.code c.at)
