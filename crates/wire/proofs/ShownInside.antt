-- What the values of an accepted message say in the message itself: each of its runs lies inside. Assumes nothing.
use mathlib.Core.Path.{◌≡◌, refl, ap, ap₂}
use mathlib.Core.Bool.{Bool}
use mathlib.Core.List.{List, ◌∷◌, map}
use Prim.Native.Nat.{ℕ, ◌+◌, ◌≤◌}
use lib.ListN.{length}
use borrow.Author.Tests.{le-leb}
use Rattle.layout.specs.Kinds.{Num, u8, i8, u32, i32, u64, bool, Kind}
use Rattle.layout.specs.Table.{Side, Plan}
use Rattle.layout.specs.Values.{Part, part, Value, run, runs, bytes_in, content, contents}
use Rattle.layout.specs.Reading.{value_of, Shape, accepted, read}
use Rattle.layout.proofs.Trace.{SizedHere, sized-here, StringsHere, no-string, a-string-more, FieldHere, a-num, a-string, a-bytes, a-strings, FieldsHere, no_field, a-field-more, BodyHere, header-only, an-asked, a-plain, a-failure, a-success, message-traced}
use Rattle.wire.specs.Runs.{shown}
use Rattle.wire.specs.Values.{shown_in}

module _ (m : List ℕ) where
  part-shown : (x : Part) → x.start + x.size ≤ length m → shown m x ≡ bytes_in m x
  unfolding shown
  part-shown x h = rw (le-leb (x.start + x.size) (length m) h)

  number-shown : (k : Num) (n : ℕ) → shown_in m (value_of k n) ≡ content m (value_of k n)
  number-shown u8 n = refl
  number-shown i8 n = refl
  number-shown u32 n = refl
  number-shown i32 n = refl
  number-shown u64 n = refl
  number-shown bool n = refl

  sized-shown : {valid : List ℕ → Bool} {p : ℕ} {x : Part} → SizedHere valid m p x → shown m x ≡ bytes_in m x
  sized-shown (sized-here {p = p} {n = n} h r) = part-shown (part (p + 4) n) r.fits

  strings-shown : {n p q : ℕ} {xs : List Part} → StringsHere m n p xs q → map (shown m) xs ≡ map (bytes_in m) xs
  strings-shown no-string = refl
  strings-shown (a-string-more h t) = ap₂ ◌∷◌ (sized-shown h) (strings-shown t)

  field-shown : {k : Kind} {p q : ℕ} {v : Value Part} → FieldHere m k p v q → shown_in m v ≡ content m v
  field-shown (a-num {k = k} {n = n} h) = number-shown k n
  field-shown (a-string h) = ap run (sized-shown h)
  field-shown (a-bytes h) = ap run (sized-shown h)
  field-shown (a-strings h t) = ap runs (strings-shown t)

  fields-shown : {ks : List Kind} {p q : ℕ} {vs : List (Value Part)} → FieldsHere m ks p vs q → map (shown_in m) vs ≡ contents m vs
  fields-shown no_field = refl
  fields-shown (a-field-more h t) = ap₂ ◌∷◌ (field-shown h) (fields-shown t)

  body-shown : {pl : Plan} {p q : ℕ} {s : Shape} {vs : List (Value Part)} → BodyHere m pl p s vs q → map (shown_in m) vs ≡ contents m vs
  body-shown header-only = refl
  body-shown (an-asked t) = fields-shown t
  body-shown (a-plain t) = fields-shown t
  body-shown (a-failure h e) = refl
  body-shown (a-success h e t c) = ap₂ ◌∷◌ refl (fields-shown t)

pub accepted-shown : (side : Side) (m : List ℕ) {s : Shape} {i t k : ℕ} {vs : List (Value Part)} → read side m ≡ accepted s i t vs k → map (shown_in m) vs ≡ contents m vs
accepted-shown side m a = body-shown m (message-traced a).rest
