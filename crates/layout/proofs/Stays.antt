-- A message that agrees with an accepted one on its known part is accepted with the same answer and the same bytes.
-- Assumes nothing.
use mathlib.Core.Path.{◌≡◌, refl, sym, ap, ap₂, ◌∙◌}
use mathlib.Core.Bool.{Bool}
use mathlib.Core.List.{List, [], ◌∷◌, ◌++◌, map}
use Prim.Native.Nat.{ℕ, zero, suc, ◌+◌, ◌≤◌, ◌<◌}
use native.Mathlib.Omega.{arith}
use lib.ListN.{length, take, drop}
use Rattle.number.specs.BigEndian.{be}
use Rattle.layout.specs.Kinds.{Num, u8, i8, u32, i32, u64, bool, Kind}
use Rattle.layout.specs.Limits.{longest}
use Rattle.layout.specs.Table.{Side, Plan, plan}
use Rattle.layout.specs.Values.{Part, Value, run, runs, bytes_in, content, contents}
use Rattle.layout.specs.Reading.{value_of, Shape}
use Rattle.layout.specs.Pieces.{Agree}
use Rattle.layout.proofs.Agreement.{agree_less, same-part}
use Rattle.layout.proofs.Sizes.{strings-size, field-size, fields-size, body-size}
use Rattle.layout.proofs.Trace.{NumHere, RunHere, SizedHere, sized-here, StringsHere, no-string, a-string-more, FieldHere, a-num, a-string, a-bytes, a-strings, FieldsHere, no_field, a-field-more, BodyHere, header-only, an-asked, a-plain, a-failure, a-success, MessageHere}

-- a number says the same in every message
value_same : (m m' : List ℕ) (k : Num) (n : ℕ) → content m' (value_of k n) ≡ content m (value_of k n)
value_same m m' u8 n = refl
value_same m m' i8 n = refl
value_same m m' u32 n = refl
value_same m m' i32 n = refl
value_same m m' u64 n = refl
value_same m m' bool n = refl

module _ {m m' : List ℕ} where
  pub num-stays : {w p n : ℕ} → NumHere w m p n → Agree (p + w) m m' → NumHere w m' p n
  num-stays {w} {p} h a = record { fits = a.fits; is = ap be (sym (same-part p w a)) ∙ h.is }

  pub sized-stays : {valid : List ℕ → Bool} {p : ℕ} {x : Part} → SizedHere valid m p x → Agree (p + 4 + x.size) m m' → SizedHere valid m' p x
  sized-stays {valid} (sized-here {p = p} {n = n} h r) a =
      sized-here (num-stays h (agree_less (omega arith) a)) (record { fits = a.fits; good = ap valid (sym (same-part (p + 4) n a)) ∙ r.good })

  pub strings-stay : {n p q : ℕ} {xs : List Part} → StringsHere m n p xs q → Agree q m m' → StringsHere m' n p xs q
  strings-stay no-string a = no-string
  strings-stay (a-string-more h t) a = a-string-more (sized-stays h (agree_less (omega (arith, strings-size t)) a)) (strings-stay t a)

  pub field-stays : {k : Kind} {p q : ℕ} {v : Value Part} → FieldHere m k p v q → Agree q m m' → FieldHere m' k p v q
  field-stays (a-num h) a = a-num (num-stays h a)
  field-stays (a-string h) a = a-string (sized-stays h a)
  field-stays (a-bytes h) a = a-bytes (sized-stays h a)
  field-stays (a-strings h t) a = a-strings (num-stays h (agree_less (omega (arith, strings-size t)) a)) (strings-stay t a)

  fields-stay : {ks : List Kind} {p q : ℕ} {vs : List (Value Part)} → FieldsHere m ks p vs q → Agree q m m' → FieldsHere m' ks p vs q
  fields-stay no_field a = no_field
  fields-stay (a-field-more h t) a = a-field-more (field-stays h (agree_less (omega (arith, fields-size t)) a)) (fields-stay t a)

  body-stays : {pl : Plan} {p q : ℕ} {s : Shape} {vs : List (Value Part)} → BodyHere m pl p s vs q → Agree q m m' → BodyHere m' pl p s vs q
  body-stays header-only a = header-only
  body-stays (an-asked t) a = an-asked (fields-stay t a)
  body-stays (a-plain t) a = a-plain (fields-stay t a)
  body-stays (a-failure h e) a = a-failure (num-stays h a) e
  body-stays (a-success h e t c) a = a-success (num-stays h (agree_less (omega (arith, fields-size t)) a)) e (fields-stay t a) c

  pub message-stays : {side : Side} {s : Shape} {i t k : ℕ} {vs : List (Value Part)} → MessageHere side m s i t vs k → Agree k m m' → length m' ≤ longest
      → MessageHere side m' s i t vs k
  message-stays h a l =
      record {
        short = l;
        id = num-stays h.id (agree_less (omega (arith, body-size h.rest)) a);
        type = num-stays h.type (agree_less (omega (arith, body-size h.rest)) a);
        rest = body-stays h.rest a;
      }

  -- the bytes of the parts
  sized-bytes : {valid : List ℕ → Bool} {p : ℕ} {x : Part} → SizedHere valid m p x → Agree (p + 4 + x.size) m m' → bytes_in m' x ≡ bytes_in m x
  sized-bytes (sized-here {p = p} {n = n} h r) a = sym (same-part (p + 4) n a)

  pub strings-bytes : {n p q : ℕ} {xs : List Part} → StringsHere m n p xs q → Agree q m m' → map (bytes_in m') xs ≡ map (bytes_in m) xs
  strings-bytes no-string a = refl
  strings-bytes (a-string-more h t) a = ap₂ ◌∷◌ (sized-bytes h (agree_less (omega (arith, strings-size t)) a)) (strings-bytes t a)

  field-content : {k : Kind} {p q : ℕ} {v : Value Part} → FieldHere m k p v q → Agree q m m' → content m' v ≡ content m v
  field-content (a-num {k = k} {n = n} h) a = value_same m m' k n
  field-content (a-string h) a = ap run (sized-bytes h a)
  field-content (a-bytes h) a = ap run (sized-bytes h a)
  field-content (a-strings h t) a = ap runs (strings-bytes t a)

  fields-contents : {ks : List Kind} {p q : ℕ} {vs : List (Value Part)} → FieldsHere m ks p vs q → Agree q m m' → contents m' vs ≡ contents m vs
  fields-contents no_field a = refl
  fields-contents (a-field-more h t) a = ap₂ ◌∷◌ (field-content h (agree_less (omega (arith, fields-size t)) a)) (fields-contents t a)

  pub body-contents : {pl : Plan} {p q : ℕ} {s : Shape} {vs : List (Value Part)} → BodyHere m pl p s vs q → Agree q m m' → contents m' vs ≡ contents m vs
  body-contents header-only a = refl
  body-contents (an-asked t) a = fields-contents t a
  body-contents (a-plain t) a = fields-contents t a
  body-contents (a-failure h e) a = refl
  body-contents (a-success h e t c) a = ap₂ ◌∷◌ refl (fields-contents t a)
