-- The values of a message that was read fit their fields. Assumes nothing.
use mathlib.Core.Path.{◌≡◌, sym, ap, ◌∙◌, subst}
use mathlib.Core.Bool.{not}
use mathlib.Core.List.{List, map}
use Prim.Native.Nat.{ℕ, ◌^◌, ◌<◌}
use native.Mathlib.Nat.{mod-lt}
use lib.Dec.{eqb, lit<}
use lib.IntN.{ℤ}
use Rattle.number.specs.BigEndian.{be, Bytes}
use Rattle.number.specs.TwosComplement.{signed_of}
use Rattle.number.proofs.BigEndian.{pow256, be-bytes_of-mod}
use Rattle.number.proofs.TwosComplement.{signed-fits}
use Rattle.layout.specs.Kinds.{Num, u8, i8, u32, i32, u64, bool, width, Kind, num}
use Rattle.layout.specs.Table.{Side, Plan, plan}
use Rattle.layout.specs.Values.{Part, Value, signed, bytes_in, content, contents, NumFits, fits-u8, fits-u32, fits-u64, fits-i8, fits-i32, fits_bool, Fits, fits-num, fits-string, fits-bytes, fits-strings, AllFit, none, more}
use Rattle.layout.specs.Reading.{value_of, Shape, accepted, read}
use Rattle.layout.specs.Pieces.{kinds_of}
use Rattle.layout.proofs.Trace.{NumHere, FieldHere, a-num, a-string, a-bytes, a-strings, FieldsHere, no_field, a-field-more, BodyHere, header-only, an-asked, a-plain, a-failure, a-success, message-traced}
use Rattle.layout.proofs.Rewritten.{num-again}

module _ {m : List ℕ} (by : Bytes m) where
  num-below : {w p n : ℕ} → NumHere w m p n → n < 256 ^ w
  num-below {w} {n = n} h =
      subst (λ (x : ℕ). x < 256 ^ w) (sym (be-bytes_of-mod w n) ∙ ap be (num-again by h) ∙ h.is) (mod-lt n (pow256 w))

  num-fits : (k : Num) {p n : ℕ} → NumHere (width k) m p n → NumFits k (content m (value_of k n))
  num-fits u8 h = fits-u8 (num-below h)
  num-fits i8 {n = n} h = fits-i8 (signed-fits 1 (lit< tt) n (num-below h))
  num-fits u32 h = fits-u32 (num-below h)
  num-fits i32 {n = n} h = fits-i32 (signed-fits 4 (lit< tt) n (num-below h))
  num-fits u64 h = fits-u64 (num-below h)
  num-fits bool {n = n} h = fits_bool (not (eqb n 0))

  field_fits : {k : Kind} {p q : ℕ} {v : Value Part} → FieldHere m k p v q → Fits k (content m v)
  field_fits (a-num {k = k} h) = fits-num (num-fits k h)
  field_fits (a-string {x = x} h) = fits-string (bytes_in m x)
  field_fits (a-bytes {x = x} h) = fits-bytes (bytes_in m x)
  field_fits (a-strings {xs = xs} h t) = fits-strings (map (bytes_in m) xs)

  fields_fit : {ks : List Kind} {p q : ℕ} {vs : List (Value Part)} → FieldsHere m ks p vs q → AllFit ks (contents m vs)
  fields_fit no_field = none
  fields_fit (a-field-more h t) = more (field_fits h) (fields_fit t)

  result_fits : {p n : ℕ} {z : ℤ} → NumHere 4 m p n → signed_of 4 n ≡ z → Fits (num i32) (signed z)
  result_fits h e = fits-num (subst (λ (x : ℤ). NumFits i32 (signed x)) e (num-fits i32 h))

  body-fits : {pl : Plan} {p q : ℕ} {s : Shape} {vs : List (Value Part)} → BodyHere m pl p s vs q → AllFit (kinds_of pl s) (contents m vs)
  body-fits header-only = none
  body-fits (an-asked t) = fields_fit t
  body-fits (a-plain t) = fields_fit t
  body-fits (a-failure h e) = more (result_fits h e) none
  body-fits (a-success h e t c) = more (result_fits h e) (fields_fit t)

pub accepted-fits : (side : Side) (m : List ℕ) {s : Shape} {i t k : ℕ} {vs : List (Value Part)} → Bytes m → read side m ≡ accepted s i t vs k
    → AllFit (kinds_of (plan side t) s) (contents m vs)
accepted-fits side m by a = body-fits by (message-traced a).rest
