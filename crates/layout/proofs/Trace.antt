-- Reading as a relation: what stands where, in place of an equation of the reader. A reader accepts exactly what the relation
-- holds of, so the laws of accepted messages go by the relation's cases. Assumes nothing.
use mathlib.Core.Path.{◌≡◌, refl, sym, ap, ◌∙◌}
use mathlib.Core.Bool.{Bool, true, false, cond}
use mathlib.Core.List.{List, [], ◌∷◌}
use Prim.Native.Nat.{ℕ, zero, suc, ◌+◌, ◌≤◌, ◌<◌}
use native.Mathlib.Omega.{arith}
use lib.Dec.{leb, ltb, eqb}
use lib.IntN.{ℤ, pos, negsuc}
use lib.ListN.{length, take, drop}
use borrow.Author.Tests.{leb-true, le-leb, ltb-true, ltb-false, lt-ltb, le-ltb, eqb-true, eq-eqb}
use Rattle.number.specs.BigEndian.{be, number_at, whole, truncated}
use Rattle.number.specs.TwosComplement.{signed_of}
use Rattle.text.specs.Utf8.{well_formed}
use Rattle.layout.proofs.Tests.{apart}
use Rattle.layout.specs.Kinds.{Num, width, Kind, num, string, bytes, strings}
use Rattle.layout.specs.Refusals.{data_length_mismatch}
use Rattle.layout.specs.Limits.{header_size, longest}
use Rattle.layout.specs.Table.{Side, Plan, unexpected, header, asked, plain, led, plan}
use Rattle.layout.specs.Values.{Part, part, Value, signed, run, runs}
use Rattle.layout.specs.Reading.{Outcome, got, fail, Reader, followed, seq, mapped, num_outcome, num_at, run_at, sized_at, any_bytes, string_at, bytes_at, strings_at, value_of, field_at, fields_at, Shape, unknown, known, failure, success, Body, body, data_size, succeeded, behind_result, result_place, body_at, Message, message, message_at, Answer, refused, accepted, answer, read}

-- ---- the relation

-- n is the number in the w bytes at p
pub record NumHere (w : ℕ) (m : List ℕ) (p n : ℕ) : Type 0 where
  pub fits : p + w ≤ length m
  pub is : be (take w (drop p m)) ≡ n

-- the n bytes at p are valid
pub record RunHere (valid : List ℕ → Bool) (m : List ℕ) (p n : ℕ) : Type 0 where
  pub fits : p + n ≤ length m
  pub good : valid (take n (drop p m)) ≡ true

-- a length at p, and the part that it counts
pub data SizedHere (valid : List ℕ → Bool) (m : List ℕ) : ℕ → Part → Type 0 where
  sized-here : {p n : ℕ} → NumHere 4 m p n → RunHere valid m (p + 4) n → SizedHere valid m p (part (p + 4) n)

-- n strings from p to q
pub data StringsHere (m : List ℕ) : ℕ → ℕ → List Part → ℕ → Type 0 where
  no-string : {p : ℕ} → StringsHere m 0 p [] p
  a-string-more : {p n q : ℕ} {x : Part} {xs : List Part} → SizedHere well_formed m p x → StringsHere m n (p + 4 + x.size) xs q
      → StringsHere m (suc n) p (x ∷ xs) q

pub data FieldHere (m : List ℕ) : Kind → ℕ → Value Part → ℕ → Type 0 where
  a-num : {k : Num} {p n : ℕ} → NumHere (width k) m p n → FieldHere m (num k) p (value_of k n) (p + width k)
  a-string : {p : ℕ} {x : Part} → SizedHere well_formed m p x → FieldHere m string p (run x) (p + 4 + x.size)
  a-bytes : {p : ℕ} {x : Part} → SizedHere any_bytes m p x → FieldHere m bytes p (run x) (p + 4 + x.size)
  a-strings : {p n q : ℕ} {xs : List Part} → NumHere 4 m p n → StringsHere m n (p + 4) xs q → FieldHere m strings p (runs xs) q

pub data FieldsHere (m : List ℕ) : List Kind → ℕ → List (Value Part) → ℕ → Type 0 where
  no_field : {p : ℕ} → FieldsHere m [] p [] p
  a-field-more : {k : Kind} {ks : List Kind} {p q r : ℕ} {v : Value Part} {vs : List (Value Part)} → FieldHere m k p v q → FieldsHere m ks q vs r
      → FieldsHere m (k ∷ ks) p (v ∷ vs) r

-- the result is the length of the data, where it must be
abbrev pub Counted : Bool → ℕ → List (Value Part) → Type 0
Counted true r vs = r ≡ data_size vs
Counted false r vs = Unit {0}

-- what follows the header, from p to q
pub data BodyHere (m : List ℕ) : Plan → ℕ → Shape → List (Value Part) → ℕ → Type 0 where
  header-only : {p : ℕ} → BodyHere m header p unknown [] p
  an-asked : {ks : List Kind} {p q : ℕ} {vs : List (Value Part)} → FieldsHere m ks p vs q → BodyHere m (asked ks) p known vs q
  a-plain : {ks : List Kind} {p q : ℕ} {vs : List (Value Part)} → FieldsHere m ks p vs q → BodyHere m (plain ks) p success vs q
  a-failure : {c : Bool} {ks : List Kind} {p n e : ℕ} → NumHere 4 m p n → signed_of 4 n ≡ negsuc e
      → BodyHere m (led c ks) p failure (signed (negsuc e) ∷ []) (p + 4)
  a-success : {c : Bool} {ks : List Kind} {p n r q : ℕ} {vs : List (Value Part)} → NumHere 4 m p n → signed_of 4 n ≡ pos r
      → FieldsHere m ks (p + 4) vs q → Counted c r vs → BodyHere m (led c ks) p success (signed (pos r) ∷ vs) q

pub record MessageHere (side : Side) (m : List ℕ) (s : Shape) (i t : ℕ) (vs : List (Value Part)) (k : ℕ) : Type 0 where
  pub short : length m ≤ longest
  pub id : NumHere 4 m 0 i
  pub type : NumHere 1 m 4 t
  pub rest : BodyHere m (plan side t) header_size s vs k

-- ---- what the relation holds of is read

succeeds : (m : List ℕ) (c : Bool) (r : ℕ) (vs : List (Value Part)) (q : ℕ) → Counted c r vs → succeeded c r vs m q ≡ got (body success (signed (pos r) ∷ vs)) q
succeeds m true r vs q h = rw (eq-eqb r (data_size vs) h)
succeeds m false r vs q h = refl

module _ {m : List ℕ} where
  pub num-reads : {w p n : ℕ} → NumHere w m p n → num_at w m p ≡ got n (p + w)
  unfolding num_at number_at
  num-reads {w} {p} h = rw (le-leb (p + w) (length m) h.fits, h.is)

  pub run-reads : {valid : List ℕ → Bool} {p n : ℕ} → RunHere valid m p n → run_at valid n m p ≡ got (part p n) (p + n)
  unfolding run_at
  run-reads {valid} {p} {n} h = rw (le-leb (p + n) (length m) h.fits, h.good)

  pub sized_reads : {valid : List ℕ → Bool} {p : ℕ} {x : Part} → SizedHere valid m p x → sized_at valid m p ≡ got x (p + 4 + x.size)
  sized_reads (sized-here h r) = rw (num-reads h, run-reads r)

  pub strings-read : {n p q : ℕ} {xs : List Part} → StringsHere m n p xs q → strings_at n m p ≡ got xs q
  strings-read no-string = refl
  strings-read (a-string-more h t) = rw (sized_reads h, strings-read t)

  pub field-reads : {k : Kind} {p q : ℕ} {v : Value Part} → FieldHere m k p v q → field_at k m p ≡ got v q
  field-reads (a-num h) = rw (num-reads h)
  field-reads (a-string h) = rw (sized_reads h)
  field-reads (a-bytes h) = rw (sized_reads h)
  field-reads (a-strings h t) = rw (num-reads h, strings-read t)

  pub fields_read : {ks : List Kind} {p q : ℕ} {vs : List (Value Part)} → FieldsHere m ks p vs q → fields_at ks m p ≡ got vs q
  fields_read no_field = refl
  fields_read (a-field-more h t) = rw (field-reads h, fields_read t)

  pub body_reads : {pl : Plan} {p q : ℕ} {s : Shape} {vs : List (Value Part)} → BodyHere m pl p s vs q → body_at pl m p ≡ got (body s vs) q
  body_reads header-only = refl
  body_reads (an-asked t) = rw (fields_read t)
  body_reads (a-plain t) = rw (fields_read t)
  body_reads (a-failure h e) = rw (num-reads h, e)
  body_reads (a-success {c = c} {r = r} {q = q} {vs = vs} h e t g) = rw (num-reads h, e, fields_read t) (succeeds m c r vs q g)

pub message-reads : {side : Side} {m : List ℕ} {s : Shape} {i t k : ℕ} {vs : List (Value Part)} → MessageHere side m s i t vs k
    → read side m ≡ accepted s i t vs k
unfolding read message_at
message-reads {m = m} h =
    rw (le-ltb (length m) header_size h.type.fits, le-ltb longest (length m) h.short, num-reads h.id, num-reads h.type, body_reads h.rest)

-- ---- and what is read, the relation holds of

-- what came of the first of two readers
record Middle {A B : Type 0} (o : Outcome A) (k : A → ℕ → Outcome B) (b : B) (q : ℕ) : Type 0 where
  value : A
  at : ℕ
  first : o ≡ got value at
  second : k value at ≡ got b q

middle : {A B : Type 0} (o : Outcome A) (k : A → ℕ → Outcome B) {b : B} {q : ℕ} → followed o k ≡ got b q → Middle o k b q
middle (got a r) k e = record { value = a; at = r; first = refl; second = e }
middle (fail n p) k e = let z : false ≡ true = cc in apart z

-- what came of a reader whose value is mapped
record Unmapped {A B : Type 0} (f : A → B) (o : Outcome A) (b : B) (q : ℕ) : Type 0 where
  value : A
  first : o ≡ got value q
  is : b ≡ f value

unmapped : {A B : Type 0} (f : A → B) (o : Outcome A) {b : B} {q : ℕ} → followed o (λ a r. got (f a) r) ≡ got b q → Unmapped f o b q
unmapped f (got a r) e = record { value = a; first = ap (got a) (cc); is = cc }
unmapped f (fail n p) e = let z : false ≡ true = cc in apart z

-- a test that was passed
passed : {A : Type 0} (t : Bool) (x : Outcome A) (n c : ℕ) {a : A} {q : ℕ} → cond t x (fail n c) ≡ got a q → (t ≡ true) × (x ≡ got a q)
passed true x n c e = (refl, e)
passed false x n c e = let z : false ≡ true = cc in apart z

-- the same body at the same place
same_body : {s s' : Shape} {vs vs' : List (Value Part)} {q q' : ℕ} → got (body s vs) q ≡ got (body s' vs') q' → (s' ≡ s) × (vs' ≡ vs) × (q' ≡ q)
same_body {s} {s'} {vs} {vs'} e =
    let b : body s' vs' ≡ body s vs = cc in
    (ap (λ (x : Body). x.shape) b, ap (λ (x : Body). x.values) b, cc)

-- a success, with the count compared where it must be
counted : (m : List ℕ) (c : Bool) (r : ℕ) (ws : List (Value Part)) (p : ℕ) {s : Shape} {vs : List (Value Part)} {q : ℕ} → succeeded c r ws m p ≡ got (body s vs) q
    → Counted c r ws × (s ≡ success) × (vs ≡ signed (pos r) ∷ ws) × (q ≡ p)
counted m false r ws p e = let b = same_body e in (tt, b.0, b.1, b.2)
counted m true r ws p e =
    let h = passed (eqb r (data_size ws)) (got (body success (signed (pos r) ∷ ws)) p) data_length_mismatch result_place e in
    let b = same_body h.1 in
    (eqb-true r (data_size ws) h.0, b.0, b.1, b.2)

module _ {m : List ℕ} where
  pub num-traced : {w p n q : ℕ} → num_at w m p ≡ got n q → NumHere w m p n × (q ≡ p + w)
  unfolding num_at number_at
  num-traced {w} {p} {n} {q} e = go (leb (p + w) (length m)) refl e
    where
      go : (t : Bool) → leb (p + w) (length m) ≡ t → num_outcome w p (cond t (whole (be (take w (drop p m)))) truncated) ≡ got n q
          → NumHere w m p n × (q ≡ p + w)
      go true h e = (record { fits = leb-true (p + w) (length m) h; is = cc }, cc)
      go false h e = let z : false ≡ true = cc in apart z

  run-traced : {valid : List ℕ → Bool} {n p : ℕ} {x : Part} {q : ℕ} → run_at valid n m p ≡ got x q
      → RunHere valid m p n × (x ≡ part p n) × (q ≡ p + n)
  unfolding run_at
  run-traced {valid} {n} {p} e =
      let h = passed (leb (p + n) (length m)) _ _ _ e in
      let g = passed (valid (take n (drop p m))) _ _ _ h.1 in
      (record { fits = leb-true (p + n) (length m) h.0; good = g.0 }, cc g.1, cc g.1)

  pub sized-traced : {valid : List ℕ → Bool} {p : ℕ} {x : Part} {q : ℕ} → sized_at valid m p ≡ got x q → SizedHere valid m p x × (q ≡ p + 4 + x.size)
  sized-traced {valid} {p} {x} {q} e =
      let h = middle (num_at 4 m p) (λ n c. run_at valid n m c) e in
      let a = num-traced h.first in
      let b = run-traced h.second in
      from a.0 a.1 b.0 b.1 b.2
    where
      from : {n r : ℕ} → NumHere 4 m p n → r ≡ p + 4 → RunHere valid m r n → x ≡ part r n → q ≡ r + n → SizedHere valid m p x × (q ≡ p + 4 + x.size)
      from h at r is end = rw (end, is, at) (sized-here h (rw at at r), refl)

  pub strings-traced : (n p : ℕ) {xs : List Part} {q : ℕ} → strings_at n m p ≡ got xs q → StringsHere m n p xs q
  strings-traced zero p {xs} {q} e =
      let z : ◌≡◌ {A = List Part} xs [] = cc in
      let y : q ≡ p = cc in
      rw (z, y) no-string
  strings-traced (suc n) p {xs} {q} e =
      let h = middle (string_at m p) (λ x c. mapped (λ ys. x ∷ ys) (strings_at n) m c) e in
      let g = unmapped (λ ys. h.value ∷ ys) (strings_at n m h.at) h.second in
      let a = sized-traced h.first in
      from a.0 a.1 (strings-traced n h.at g.first) g.is
    where
      from : {x : Part} {ys : List Part} {r : ℕ} → SizedHere well_formed m p x → r ≡ p + 4 + x.size → StringsHere m n r ys q → xs ≡ x ∷ ys → StringsHere m (suc n) p xs q
      from h at t is = rw is (a-string-more h (rw at at t))

  pub field-traced : (k : Kind) (p : ℕ) {v : Value Part} {q : ℕ} → field_at k m p ≡ got v q → FieldHere m k p v q
  field-traced (num k) p {v} {q} e =
      let g = unmapped (value_of k) (num_at (width k) m p) e in
      let a = num-traced g.first in
      from a.0 g.is a.1
    where
      from : {n : ℕ} → NumHere (width k) m p n → v ≡ value_of k n → q ≡ p + width k → FieldHere m (num k) p v q
      from h is end = rw (is, end) (a-num h)
  field-traced string p {v} {q} e =
      let g = unmapped run (string_at m p) e in
      let a = sized-traced g.first in
      from a.0 g.is a.1
    where
      from : {x : Part} → SizedHere well_formed m p x → v ≡ run x → q ≡ p + 4 + x.size → FieldHere m string p v q
      from h is end = rw (is, end) (a-string h)
  field-traced bytes p {v} {q} e =
      let g = unmapped run (bytes_at m p) e in
      let a = sized-traced g.first in
      from a.0 g.is a.1
    where
      from : {x : Part} → SizedHere any_bytes m p x → v ≡ run x → q ≡ p + 4 + x.size → FieldHere m bytes p v q
      from h is end = rw (is, end) (a-bytes h)
  field-traced strings p {v} {q} e =
      let h = middle (num_at 4 m p) (λ n c. mapped runs (strings_at n) m c) e in
      let g = unmapped runs (strings_at h.value m h.at) h.second in
      let a = num-traced h.first in
      from a.0 a.1 (strings-traced h.value h.at g.first) g.is
    where
      from : {n r : ℕ} {xs : List Part} → NumHere 4 m p n → r ≡ p + 4 → StringsHere m n r xs q → v ≡ runs xs → FieldHere m strings p v q
      from h at t is = rw is (a-strings h (rw at at t))

  fields-traced : (ks : List Kind) (p : ℕ) {vs : List (Value Part)} {q : ℕ} → fields_at ks m p ≡ got vs q → FieldsHere m ks p vs q
  fields-traced [] p {vs} {q} e =
      let z : ◌≡◌ {A = List (Value Part)} vs [] = cc in
      let y : q ≡ p = cc in
      rw (z, y) no_field
  fields-traced (k ∷ ks) p {vs} {q} e =
      let h = middle (field_at k m p) (λ v c. mapped (λ ws. v ∷ ws) (fields_at ks) m c) e in
      let g = unmapped (λ ws. h.value ∷ ws) (fields_at ks m h.at) h.second in
      from (field-traced k p h.first) (fields-traced ks h.at g.first) g.is
    where
      from : {v : Value Part} {r : ℕ} {ws : List (Value Part)} → FieldHere m k p v r → FieldsHere m ks r ws q → vs ≡ v ∷ ws → FieldsHere m (k ∷ ks) p vs q
      from h t is = rw is (a-field-more h t)

  body-traced : (pl : Plan) (p : ℕ) {s : Shape} {vs : List (Value Part)} {q : ℕ} → body_at pl m p ≡ got (body s vs) q → BodyHere m pl p s vs q
  body-traced unexpected p e = let z : false ≡ true = cc in apart z
  body-traced header p {s} {vs} {q} e =
      let b = same_body e in
      rw (b.0, b.1, b.2) header-only
  body-traced (asked ks) p {s} {vs} {q} e =
      let g = unmapped (body known) (fields_at ks m p) e in
      from (fields-traced ks p g.first) (ap (λ (b : Body). b.shape) g.is) (ap (λ (b : Body). b.values) g.is)
    where
      from : {ws : List (Value Part)} → FieldsHere m ks p ws q → s ≡ known → vs ≡ ws → BodyHere m (asked ks) p s vs q
      from t is same = rw (is, same) (an-asked t)
  body-traced (plain ks) p {s} {vs} {q} e =
      let g = unmapped (body success) (fields_at ks m p) e in
      from (fields-traced ks p g.first) (ap (λ (b : Body). b.shape) g.is) (ap (λ (b : Body). b.values) g.is)
    where
      from : {ws : List (Value Part)} → FieldsHere m ks p ws q → s ≡ success → vs ≡ ws → BodyHere m (plain ks) p s vs q
      from t is same = rw (is, same) (a-plain t)
  body-traced (led c ks) p {s} {vs} {q} e =
      let h = middle (num_at 4 m p) (λ n a. behind_result c ks (signed_of 4 n) m a) e in
      let a = num-traced h.first in
      from a.0 a.1 (signed_of 4 h.value) refl h.second
    where
      success-from : {n r a : ℕ} {ws : List (Value Part)} → NumHere 4 m p n → signed_of 4 n ≡ pos r → FieldsHere m ks (p + 4) ws a
          → Counted c r ws × (s ≡ success) × (vs ≡ signed (pos r) ∷ ws) × (q ≡ a) → BodyHere m (led c ks) p s vs q
      success-from h z t g = rw (g.1, g.2, g.3) (a-success h z t g.0)

      from : {n a : ℕ} → NumHere 4 m p n → a ≡ p + 4 → (z : ℤ) → signed_of 4 n ≡ z → behind_result c ks z m a ≡ got (body s vs) q → BodyHere m (led c ks) p s vs q
      from {n} {a} h at (negsuc x) z e =
          let b = same_body (rw at at e) in
          rw (b.0, b.1, b.2) (a-failure h z)
      from {n} {a} h at (pos r) z e =
          let f : followed (fields_at ks m (p + 4)) (λ ws b. succeeded c r ws m b) ≡ got (body s vs) q = rw at at e in
          let g = middle (fields_at ks m (p + 4)) (λ ws b. succeeded c r ws m b) f in
          success-from h z (fields-traced ks (p + 4) g.first) (counted m c r g.value g.at g.second)

-- the answer was given for a message
answered : (o : Outcome Message) {s : Shape} {i t : ℕ} {vs : List (Value Part)} {k : ℕ} → answer o ≡ accepted s i t vs k → o ≡ got (message i t (body s vs)) k
answered (got x q) {s} {i} {t} {vs} {k} e =
    let ei : x.id ≡ i = cc in
    let et : x.type ≡ t = cc in
    let es : x.body.shape ≡ s = cc in
    let ev : x.body.values ≡ vs = cc in
    let ek : q ≡ k = cc in
    λ d. got (message (ei d) (et d) (body (es d) (ev d))) (ek d)
answered (fail n p) e = let z : false ≡ true = cc in apart z

inner-traced : (side : Side) {m : List ℕ} {s : Shape} {i t : ℕ} {vs : List (Value Part)} {k : ℕ} → length m ≤ longest
    → message_at side m 0 ≡ got (message i t (body s vs)) k → MessageHere side m s i t vs k
unfolding message_at
inner-traced side {m} {s} {i} {t} {vs} {k} l e =
    let h = middle (num_at 4 m 0) (λ i c. seq (num_at 1) (λ t. mapped (message i t) (body_at (plan side t))) m c) e in
    let a = num-traced h.first in
    let g = middle (num_at 1 m h.at) (λ t c. mapped (message h.value t) (body_at (plan side t)) m c) h.second in
    let b = num-traced g.first in
    let u = unmapped (message h.value g.value) (body_at (plan side g.value) m g.at) g.second in
    from a.0 a.1 b.0 b.1 u.first (ap (λ (x : Message). x.id) u.is) (ap (λ (x : Message). x.type) u.is) (ap (λ (x : Message). x.body) u.is)
  where
    from : {i' t' c d : ℕ} {b : Body} → NumHere 4 m 0 i' → c ≡ 0 + 4 → NumHere 1 m c t' → d ≡ c + 1 → body_at (plan side t') m d ≡ got b k
        → i ≡ i' → t ≡ t' → body s vs ≡ b → MessageHere side m s i t vs k
    from {i'} {t'} {c} {d} {b} h ec g ed e ei et eb =
        let behind : d ≡ header_size = omega arith in
        let four : c ≡ 4 = omega arith in
        let e' : body_at (plan side t') m header_size ≡ got (body s vs) k = rw (behind, ← eb) at e in
        rw (ei, et) (record { short = l; id = h; type = rw four at g; rest = body-traced (plan side t') header_size e' })

pub message-traced : {side : Side} {m : List ℕ} {s : Shape} {i t : ℕ} {vs : List (Value Part)} {k : ℕ} → read side m ≡ accepted s i t vs k → MessageHere side m s i t vs k
unfolding read
message-traced {side} {m} {s} {i} {t} {vs} {k} e = first (ltb (length m) header_size) e
  where
    second : (b : Bool) → ltb longest (length m) ≡ b → cond b (refused 2 0) (answer (message_at side m 0)) ≡ accepted s i t vs k → MessageHere side m s i t vs k
    second true f e = let z : false ≡ true = cc in apart z
    second false f e = inner-traced side (ltb-false longest (length m) f) (answered (message_at side m 0) e)

    first : (b : Bool) → cond b (refused 1 0) (cond (ltb longest (length m)) (refused 2 0) (answer (message_at side m 0))) ≡ accepted s i t vs k → MessageHere side m s i t vs k
    first true e = let z : false ≡ true = cc in apart z
    first false e = second (ltb longest (length m)) refl e
