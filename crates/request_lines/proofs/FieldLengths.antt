-- The lines of a request's fields have at most `capacity` bytes. Assumes nothing.
use mathlib.Core.Path.{◌≡◌, refl, sym, ap, ◌∙◌}
use mathlib.Core.Bool.{Bool, true, false, not}
use mathlib.Core.List.{List, [], ◌∷◌, ◌++◌}
use Prim.Native.Nat.{ℕ, suc, ◌+◌, ◌%◌, ◌^◌, ◌≤◌, ◌<◌}
use native.Mathlib.Nat.{mod-lt}
use native.Mathlib.Omega.{arith}
use lib.Dec.{eqb, lit<, lit≤}
use lib.IntN.{ℤ}
use lib.ListN.{length, length-append}
use Rattle.number.specs.BigEndian.{be, Bytes}
use Rattle.number.specs.TwosComplement.{Signed, not_negative, negative}
use Rattle.number.proofs.BigEndian.{pow256, be-bytes_of-mod}
use Rattle.number.proofs.TwosComplement.{signed-fits}
use Rattle.text.specs.Ascii.{ascii}
use Rattle.method.specs.Methods.{Found, found, unknown as no-method}
use Rattle.layout.specs.Kinds.{Num, u8, i8, u32, i32, u64, bool, width, Kind, Field}
use Rattle.layout.specs.Table.{request_plan}
use Rattle.layout.specs.Values.{Part, Value}
use Rattle.layout.specs.Limits.{longest}
use Rattle.layout.specs.Reading.{value_of, Shape}
use Rattle.layout.specs.Writing.{bit}
use Rattle.layout.proofs.Trace.{NumHere, SizedHere, StringsHere, no-string, a-string-more, FieldHere, a-num, a-string, a-bytes, a-strings, FieldsHere, no_field, a-field-more, BodyHere, header-only, an-asked}
use Rattle.layout.proofs.Sizes.{sized_inside}
use Rattle.layout.proofs.Rewritten.{num-again}
use Rattle.lines.specs.Lines.{decimal, integer, line_text, text}
use Rattle.lines.proofs.Decimals.{decimal-short}
use Rattle.request_lines.specs.FieldLines.{shown, field_lines}

-- ---- a value takes at most 20 bytes

pub digits-20 : (n : ℕ) → n < 10 ^ 20 → length (decimal n) ≤ 20
digits-20 n h = decimal-short n 20 (lit≤ tt) h

integer-20 : {w : ℕ} {z : ℤ} → 256 ^ w ≤ 10 ^ 19 → Signed w z → length (integer z) ≤ 20
integer-20 u (not_negative {n = n} h) = digits-20 n (omega arith)
integer-20 u (negative {n = n} h) = omega (arith, decimal-short (suc n) 19 (lit≤ tt) (omega arith))

bit-20 : (b : Bool) → length (decimal (bit b)) ≤ 20
bit-20 true = digits-20 1 (lit< tt)
bit-20 false = digits-20 0 (lit< tt)

pub data Short : List (Value Part) → Type 0 where
  none : Short []
  more : {v : Value Part} {vs : List (Value Part)} → length (shown v) ≤ 20 → Short vs → Short (v ∷ vs)

module _ {m : List ℕ} (by : Bytes m) (l : length m ≤ longest) where
  pub num-below : {w p n : ℕ} → NumHere w m p n → n < 256 ^ w
  num-below {w} {p} {n} h =
      let e : n ≡ n % 256 ^ w = sym h.is ∙ ap be (sym (num-again by h)) ∙ be-bytes_of-mod w n in
      rw e (mod-lt n (pow256 w))

  num-short : (k : Num) {p n : ℕ} → NumHere (width k) m p n → length (shown (value_of k n)) ≤ 20
  num-short u8 {n = n} h = digits-20 n (omega (arith, num-below h))
  num-short u32 {n = n} h = digits-20 n (omega (arith, num-below h))
  num-short u64 {n = n} h = digits-20 n (omega (arith, num-below h))
  num-short i8 {n = n} h = integer-20 (lit≤ tt) (signed-fits 1 (lit< tt) n (num-below h))
  num-short i32 {n = n} h = integer-20 (lit≤ tt) (signed-fits 4 (lit< tt) n (num-below h))
  num-short bool {n = n} h = bit-20 (not (eqb n 0))

  sized-short : {valid : List ℕ → Bool} {p : ℕ} {x : Part} → SizedHere valid m p x → length (decimal x.size) ≤ 20
  sized-short {x = x} h = digits-20 x.size (omega (arith, sized_inside h))

  strings-count : {n p q : ℕ} {xs : List Part} → StringsHere m n p xs q → length xs ≡ n
  strings-count no-string = refl
  strings-count (a-string-more h t) = ap suc (strings-count t)

  field-short : {k : Kind} {p q : ℕ} {v : Value Part} → FieldHere m k p v q → length (shown v) ≤ 20
  field-short (a-num {k = k} h) = num-short k h
  field-short (a-string h) = sized-short h
  field-short (a-bytes h) = sized-short h
  field-short (a-strings {xs = xs} h t) = digits-20 (length xs) (omega (arith, strings-count t, num-below h))

  fields-short : {ks : List Kind} {p q : ℕ} {vs : List (Value Part)} → FieldsHere m ks p vs q → Short vs
  fields-short no_field = none
  fields-short (a-field-more h t) = more (field-short h) (fields-short t)

  pub body-short : (f : Found) {p q : ℕ} {s : Shape} {vs : List (Value Part)} → BodyHere m (request_plan f) p s vs q → Short vs
  body-short (found x) (an-asked t) = fields-short t
  body-short no-method header-only = none

-- ---- the lines of fields

-- bytes that suffice for the lines of these fields: a name, a space, a value and a line end
abbrev pub capacity : List Field → ℕ
capacity [] = 0
capacity (f ∷ fs) = length (ascii f.name) + 22 + capacity fs

pub fields_fit : (fs : List Field) {vs : List (Value Part)} → Short vs → length (text (field_lines fs vs)) ≤ capacity fs
fields_fit [] s = lit≤ tt
fields_fit (f ∷ fs) none = omega arith
fields_fit (f ∷ fs) (more {v = v} {vs = vs} h t) =
    omega (
      arith,
      fields_fit fs t,
      length-append (line_text (ascii f.name ∷ shown v ∷ [])) (text (field_lines fs vs)),
      length-append (ascii f.name) (ascii " " ++ (shown v ++ ascii "\n")),
      length-append (shown v) (ascii "\n"),
    )
