-- The header of a message, read from its start. Assumes nothing.
use mathlib.Core.Path.{◌≡◌, refl, sym, ap₂, ◌∙◌}
use mathlib.Core.Bool.{Bool, true, false, cond}
use mathlib.Core.List.{List, [], ◌∷◌}
use Prim.Native.Nat.{ℕ, ◌≤◌, ◌<◌}
use native.Mathlib.Omega.{arith}
use lib.Dec.{eqb}
use lib.ListN.{length}
use borrow.Author.Tests.{lt-ltb, le-ltb}
use Rattle.layout.specs.Kinds.{u8, u32, num}
use Rattle.layout.specs.Limits.{header_size, longest}
use Rattle.layout.specs.Refusals.{truncated_header, oversize}
use Rattle.layout.specs.Values.{Part, Value, number}
use Rattle.layout.specs.Reading.{Outcome, got, fail, type_place, behind_header}
use Rattle.layout.specs.Front.{id_of, type_of}
use Rattle.layout.proofs.Header.{read-truncated-header, read-oversize, read-header}
use Rattle.layout.proofs.Tests.{apart}
use Rattle.layout.proofs.Trace.{NumHere, num-reads}
use Rattle.wire.specs.declared.Cursor.{Cursor}
use Rattle.wire.specs.declared.Header.{Header}
use Rattle.wire.specs.Cursors.{place, refusal}
use Rattle.field_reader.specs.Cursors.{outcome_at, Reads}
use Rattle.field_reader.specs.Headers.{HeaderRead}
use Rattle.field_reader.proofs.Cursors.{fields-ended}
use Rattle.field_reader.proofs.Types.{type-none}

abbrev header : ℕ → ℕ → Header
header i t = record { id = i; type_number = t }

-- the id of a message that has a header
pub id-read : {m : List ℕ} {h : Header} {c : Cursor} → HeaderRead m h c → header_size ≤ length m → h.id ≡ id_of m
id-read {m} r whole = r.id ∙ rw (le-ltb (length m) header_size whole)

-- fewer bytes than the header has
pub header-truncated : (m : List ℕ) → length m < header_size → HeaderRead m (header 0 0) (refusal truncated_header)
header-truncated m h =
    record {
      id = rw (lt-ltb (length m) header_size h);
      type = type-none m (omega arith);
      ends = rw (lt-ltb (length m) header_size h);
      reads = λ side. read-truncated-header side m h;
    }

module _ {m : List ℕ} {d : Cursor} {i t : ℕ} where
  -- its numbers, read from the start of a message that has them
  pub header-values : header_size ≤ length m → Reads m (place 0) (num u32 ∷ num u8 ∷ []) (number i ∷ number t ∷ []) d → (i ≡ id_of m) × (t ≡ type_of m)
  header-values h r =
      let id : NumHere 4 m 0 (id_of m) = record { fits = omega arith; is = refl } in
      let type : NumHere 1 m type_place (type_of m) = record { fits = h; is = refl } in
      let e : ◌≡◌ {A = Outcome (List (Value Part))} (outcome_at d (number i ∷ number t ∷ [])) (got (number (id_of m) ∷ number (type_of m) ∷ []) header_size) = (fields-ended r).is ∙ rw (num-reads id, num-reads type) in
      go (eqb d.code 0) e
    where
      go : (b : Bool) → ◌≡◌ {A = Outcome (List (Value Part))} (cond b (got (number i ∷ number t ∷ []) d.at) (fail d.code d.at)) (got (number (id_of m) ∷ number (type_of m) ∷ []) header_size)
          → (i ≡ id_of m) × (t ≡ type_of m)
      go true e = (cc, cc)
      go false e = let z : false ≡ true = cc in apart z

  -- more bytes than the longest message has
  pub header-oversize : longest < length m → Reads m (place 0) (num u32 ∷ num u8 ∷ []) (number i ∷ number t ∷ []) d
      → HeaderRead m (header i t) (refusal oversize)
  header-oversize h r =
      let whole : header_size ≤ length m = omega arith in
      let v = header-values whole r in
      record {
        id = rw (le-ltb (length m) header_size whole) v.0;
        type = v.1;
        ends = rw (le-ltb (length m) header_size whole, lt-ltb longest (length m) h);
        reads = λ side. read-oversize side m h;
      }

  -- a message that is read on
  pub header-found : header_size ≤ length m → length m ≤ longest → Reads m (place 0) (num u32 ∷ num u8 ∷ []) (number i ∷ number t ∷ []) d
      → HeaderRead m (header i t) (place header_size)
  header-found whole h r =
      let v = header-values whole r in
      record {
        id = rw (le-ltb (length m) header_size whole) v.0;
        type = v.1;
        ends = rw (le-ltb (length m) header_size whole, le-ltb longest (length m) h);
        reads = λ side. read-header side m whole h ∙ ap₂ (λ (j u : ℕ). behind_header side j u m) (sym v.0) (sym v.1);
      }
