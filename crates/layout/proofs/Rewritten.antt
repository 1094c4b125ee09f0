-- What was read and is written again gives the known part, but for a bool byte above 1, which becomes 1. Assumes nothing.
use mathlib.Core.Path.{◌≡◌, refl, sym, ap, ap₂, ◌∙◌, subst}
use mathlib.Core.Bool.{Bool, true, false, not, ◌&&◌, cond}
use mathlib.Core.List.{List, [], ◌∷◌, ◌++◌, append_assoc, map}
use Prim.Native.Nat.{ℕ, zero, suc, ◌+◌, ◌/◌, ◌%◌, ◌^◌, ◌≤◌, ◌<◌}
use native.Mathlib.Decide.{dec_lt}
use native.Mathlib.Nat.{add-zero, add_assoc}
use native.Mathlib.Omega.{arith}
use lib.Dec.{eqb, leb, lit<}
use lib.IntN.{ℤ, pos, negsuc}
use lib.ListN.{length, get_or, take, drop, length-take, length-append, length-map, get_or-eq_default}
use lib.Seq.{get_or-take, get_or-drop}
use borrow.Author.Tests.{eq-eqb, le-leb}
use Rattle.number.specs.BigEndian.{be, bytes_of, Bytes}
use Rattle.number.specs.TwosComplement.{signed_of, bits_of}
use Rattle.number.proofs.BigEndian.{length-bytes_of, bytes_of-be, be-below}
use Rattle.number.proofs.TwosComplement.{bits-signed}
use Rattle.text.specs.Utf8.{well_formed}
use Rattle.layout.specs.Kinds.{Num, u8, i8, u32, i32, u64, bool, width, Kind, num, string, bytes, strings}
use Rattle.layout.specs.Refusals.{buffer_too_small}
use Rattle.layout.specs.Limits.{longest}
use Rattle.layout.specs.Table.{Side, Plan, unexpected, header, asked, plain, led, plan}
use Rattle.layout.specs.Values.{Part, part, Value, signed, run, runs, run_of, runs_of, bytes_in, content, contents}
use Rattle.layout.specs.Reading.{any_bytes, value_of, Shape, unknown, known, failure, success, data_size, accepted, read}
use Rattle.layout.specs.Pieces.{total, sized_pieces, strings_pieces, field_pieces, fields_pieces, kinds_of, pieces}
use Rattle.layout.specs.Writing.{bit, bits, sized, sized_all, encode, encode_all, encode_message, has_shape, sign_right, all_well_formed, text_right, texts_right, data_length, counts, count_right, Told, stored, WriteOutcome, check, store, store_checked, write}
use Rattle.layout.specs.Normal.{is_bool, no_bool, normal, normal_all, normalised}
use Rattle.layout.proofs.Tests.{apart, and_both}
use Rattle.layout.proofs.Agreement.{part_length, joined-parts}
use Rattle.layout.proofs.Sizes.{total-append, strings-size, field-size, fields-size, body-size, known-size, known-inside}
use Rattle.layout.proofs.Written.{length-sized}
use Rattle.layout.proofs.Trace.{NumHere, RunHere, SizedHere, sized-here, StringsHere, no-string, a-string-more, FieldHere, a-num, a-string, a-bytes, a-strings, FieldsHere, no_field, a-field-more, Counted, BodyHere, header-only, an-asked, a-plain, a-failure, a-success, MessageHere, message-traced}

-- ---- parts of a list of bytes are bytes

bytes_take : (n : ℕ) (l : List ℕ) → Bytes l → Bytes (take n l)
bytes_take n l b i = go (dec_lt i n)
  where
    go : Dec (i < n) → get_or (take n l) i 0 < 256
    go (yes h) = rw (get_or-take n l i 0 h) (b i)
    go (no h) = rw (get_or-eq_default (take n l) 0 {n = i} (omega (arith, length-take n l))) (lit< tt)

bytes_drop : (n : ℕ) (l : List ℕ) → Bytes l → Bytes (drop n l)
bytes_drop n l b i = rw (get_or-drop n l i 0) (b (n + i))

one_byte : (x : ℕ) → x < 256 → bytes_of 1 x ≡ x ∷ []
unfolding bytes_of
one_byte x h = let e : x / 256 ^ 0 % 256 ≡ x = omega arith in rw e

bit-small : (b : Bool) → bit b < 256
bit-small true = lit< tt
bit-small false = lit< tt

-- ---- each field, written again, is its own bytes

module _ {m : List ℕ} (by : Bytes m) where
  pub num-again : {w p n : ℕ} → NumHere w m p n → bytes_of w n ≡ take w (drop p m)
  num-again {w} {p} {n} h =
      subst (λ (x : ℕ). bytes_of w x ≡ take w (drop p m)) h.is
      (subst (λ (x : ℕ). bytes_of x (be (take w (drop p m))) ≡ take w (drop p m)) (part_length p w m h.fits)
      (bytes_of-be (take w (drop p m)) (bytes_take w (drop p m) (bytes_drop p m by))))

  num-below : {w p n : ℕ} → NumHere w m p n → n < 256 ^ w
  num-below {w} {p} {n} h =
      subst (λ (x : ℕ). x < 256 ^ w) h.is
      (subst (λ (x : ℕ). be (take w (drop p m)) < 256 ^ x) (part_length p w m h.fits)
      (be-below (take w (drop p m)) (bytes_take w (drop p m) (bytes_drop p m by))))

  num-normal : (k : Num) {p n : ℕ} → NumHere (width k) m p n → bytes_of (width k) (bits k (content m (value_of k n))) ≡ normal (num k) (take (width k) (drop p m))
  num-normal u8 h = num-again h
  num-normal u32 h = num-again h
  num-normal u64 h = num-again h
  num-normal i8 {n = n} h = ap (bytes_of 1) (bits-signed 1 n (num-below h)) ∙ num-again h
  num-normal i32 {n = n} h = ap (bytes_of 4) (bits-signed 4 n (num-below h)) ∙ num-again h
  num-normal bool {p} {n} h =
      one_byte (bit (not (eqb n 0))) (bit-small (not (eqb n 0)))
      ∙ ap (map (λ b. bit (not (eqb b 0)))) (sym (one_byte n (num-below h)) ∙ num-again h)

  pub sized-again : {valid : List ℕ → Bool} {p : ℕ} {x : Part} → SizedHere valid m p x → sized (bytes_in m x) ≡ take (4 + x.size) (drop p m)
  sized-again (sized-here {p = p} {n = n} h r) =
      ap (λ (k : ℕ). bytes_of 4 k ++ take n (drop (p + 4) m)) (part_length (p + 4) n m r.fits)
      ∙ ap (λ (l : List ℕ). l ++ take n (drop (p + 4) m)) (num-again h)
      ∙ joined-parts m p 4 n

  strings-again : {n p q : ℕ} {xs : List Part} → StringsHere m n p xs q → sized_all (map (bytes_in m) xs) ≡ take (total (strings_pieces xs p)) (drop p m)
  unfolding total
  strings-again no-string = refl
  strings-again (a-string-more {p = p} {x = x} {xs = xs} h t) =
      ap₂ ◌++◌ (sized-again h) (strings-again t ∙ ap (λ (a : ℕ). take (total (strings_pieces xs (p + 4 + x.size))) (drop a m)) (add_assoc p 4 x.size))
      ∙ joined-parts m p (4 + x.size) (total (strings_pieces xs (p + 4 + x.size)))
      ∙ ap (λ (a : ℕ). take a (drop p m)) (add_assoc 4 x.size (total (strings_pieces xs (p + 4 + x.size))))

  strings-count : {n p q : ℕ} {xs : List Part} → StringsHere m n p xs q → length xs ≡ n
  strings-count no-string = refl
  strings-count (a-string-more h t) = ap suc (strings-count t)

  field-again : {k : Kind} {p q : ℕ} {v : Value Part} → FieldHere m k p v q → encode k (content m v) ≡ normal k (take (total (field_pieces k v p)) (drop p m))
  unfolding total
  field-again (a-num {k = k} h) = rw add-zero (num-normal k h)
  field-again (a-string h) = rw add-zero (sized-again h)
  field-again (a-bytes h) = rw add-zero (sized-again h)
  field-again (a-strings {p = p} {n = n} {xs = xs} h t) =
      rw (length-map xs (bytes_in m), strings-count t)
      (ap₂ ◌++◌ (num-again h) (strings-again t) ∙ joined-parts m p 4 (total (strings_pieces xs (p + 4))))

  fields-again : {ks : List Kind} {p q : ℕ} {vs : List (Value Part)} → FieldsHere m ks p vs q → encode_all ks (contents m vs) ≡ normal_all ks vs m p
  fields-again no_field = refl
  fields-again (a-field-more {ks = ks} {vs = vs} h t) =
      ap₂ ◌++◌ (field-again h) (fields-again t ∙ ap (λ (a : ℕ). normal_all ks vs m a) (field-size h))

  result-again : {p n : ℕ} {z : ℤ} → NumHere 4 m p n → signed_of 4 n ≡ z → bytes_of 4 (bits_of 4 z) ≡ take 4 (drop p m)
  result-again h e = ap (λ (z : ℤ). bytes_of 4 (bits_of 4 z)) (sym e) ∙ num-normal i32 h

  body-again : {pl : Plan} {p q : ℕ} {s : Shape} {vs : List (Value Part)} → BodyHere m pl p s vs q
      → encode_all (kinds_of pl s) (contents m vs) ≡ normal_all (kinds_of pl s) vs m p
  unfolding total
  body-again header-only = refl
  body-again (an-asked t) = fields-again t
  body-again (a-plain t) = fields-again t
  body-again (a-failure h e) = ap (λ (l : List ℕ). l ++ []) (result-again h e)
  body-again (a-success h e t c) = ap₂ ◌++◌ (result-again h e) (fields-again t)

  pub message-again : {side : Side} {s : Shape} {i t k : ℕ} {vs : List (Value Part)} → MessageHere side m s i t vs k
      → encode_message side s i t (contents m vs) ≡ normalised side s t vs m
  unfolding encode_message normalised
  message-again {side} {s} {i} {t} {vs = vs} h =
      ap₂ ◌++◌ (num-again h.id) (ap₂ ◌++◌ (num-again h.type) (body-again h.rest))
      ∙ sym (append_assoc (take 4 m) (take 1 (drop 4 m)) (normal_all (kinds_of (plan side t) s) vs m 5))
      ∙ ap (λ (l : List ℕ). l ++ normal_all (kinds_of (plan side t) s) vs m 5) (joined-parts m 0 4 1)

-- ---- where there is no bool, that is the known part

normal-same : (k : Kind) (bs : List ℕ) → not (is_bool k) ≡ true → normal k bs ≡ bs
normal-same k bs h = go (is_bool k) h
  where
    go : (b : Bool) → not b ≡ true → cond b (map (λ x. bit (not (eqb x 0))) bs) bs ≡ bs
    go true h = apart h
    go false h = refl

all_same : (m : List ℕ) (ks : List Kind) (vs : List (Value Part)) (p : ℕ) → no_bool ks ≡ true → normal_all ks vs m p ≡ take (total (fields_pieces ks vs p)) (drop p m)
unfolding total
all_same m [] vs p h = refl
all_same m (k ∷ ks) [] p h = refl
all_same m (k ∷ ks) (v ∷ vs) p h =
    let b = and_both (not (is_bool k)) (no_bool ks) h in
    let n : ℕ = total (field_pieces k v p) in
    rw (normal-same k (take (total (field_pieces k v p)) (drop p m)) b.0, all_same m ks vs (p + total (field_pieces k v p)) b.1, total-append (field_pieces k v p) (fields_pieces ks vs (p + total (field_pieces k v p))))
    (joined-parts m p (total (field_pieces k v p)) (total (fields_pieces ks vs (p + total (field_pieces k v p)))))

pub normalised-same : {side : Side} {m : List ℕ} {s : Shape} {i t k : ℕ} {vs : List (Value Part)} → MessageHere side m s i t vs k
    → no_bool (kinds_of (plan side t) s) ≡ true → normalised side s t vs m ≡ take k m
unfolding normalised
normalised-same {side} {m} {s} {i} {t} {k} {vs} h b =
    let ps : List Part = fields_pieces (kinds_of (plan side t) s) vs 5 in
    let size : k ≡ 5 + total (fields_pieces (kinds_of (plan side t) s) vs 5) = body-size h.rest in
    ap (λ (l : List ℕ). take 5 m ++ l) (all_same m (kinds_of (plan side t) s) vs 5 b)
    ∙ joined-parts m 0 5 (total (fields_pieces (kinds_of (plan side t) s) vs 5))
    ∙ ap (λ (n : ℕ). take n m) (sym size)

-- ---- what was read passes every check of the writer

-- a number is no data
value-length : (m : List ℕ) (k : Num) (n : ℕ) → length (run_of [] (content m (value_of k n))) ≡ (run_of (part 0 0) (value_of {A = Part} k n)).size
value-length m u8 n = refl
value-length m i8 n = refl
value-length m u32 n = refl
value-length m i32 n = refl
value-length m u64 n = refl
value-length m bool n = refl

-- every check of the writer but those of length
record Checked (pl : Plan) (s : Shape) (vs : List (Value (List ℕ))) : Type 0 where
  shape : has_shape pl s ≡ true
  sign : sign_right pl s vs ≡ true
  texts : texts_right (kinds_of pl s) vs ≡ true
  count : count_right pl s vs ≡ true

module _ {m : List ℕ} where
  strings-right : {n p q : ℕ} {xs : List Part} → StringsHere m n p xs q → all_well_formed (map (bytes_in m) xs) ≡ true
  strings-right no-string = refl
  strings-right (a-string-more (sized-here h r) t) = rw r.good (strings-right t)

  field-right : {k : Kind} {p q : ℕ} {v : Value Part} → FieldHere m k p v q → text_right k (content m v) ≡ true
  field-right (a-num h) = refl
  field-right (a-string (sized-here h r)) = r.good
  field-right (a-bytes h) = refl
  field-right (a-strings h t) = strings-right t

  fields-right : {ks : List Kind} {p q : ℕ} {vs : List (Value Part)} → FieldsHere m ks p vs q → texts_right ks (contents m vs) ≡ true
  fields-right no_field = refl
  fields-right (a-field-more h t) = rw (field-right h) (fields-right t)

  -- the length of the data, in the message and by itself
  sized-length : {valid : List ℕ → Bool} {p : ℕ} {x : Part} → SizedHere valid m p x → length (bytes_in m x) ≡ x.size
  sized-length (sized-here {p = p} {n = n} h r) = part_length (p + 4) n m r.fits

  data-length : {k : Kind} {p q : ℕ} {v : Value Part} → FieldHere m k p v q → length (run_of [] (content m v)) ≡ (run_of (part 0 0) v).size
  data-length (a-num {k = k} {n = n} h) = value-length m k n
  data-length (a-string h) = sized-length h
  data-length (a-bytes h) = sized-length h
  data-length (a-strings h t) = refl

  fields_data : {ks : List Kind} {p q : ℕ} {vs : List (Value Part)} → FieldsHere m ks p vs q → data_length (contents m vs) ≡ data_size vs
  fields_data no_field = refl
  fields_data (a-field-more h t) = data-length h

  count-right : (c : Bool) (r : ℕ) {ks : List Kind} {p q : ℕ} {vs : List (Value Part)} → FieldsHere m ks p vs q → Counted c r vs
      → count_right (led c ks) success (signed (pos r) ∷ contents m vs) ≡ true
  count-right true r {vs = vs} t h = eq-eqb r (data_length (contents m vs)) (h ∙ sym (fields_data t))
  count-right false r t h = refl

  body-checked : {pl : Plan} {p q : ℕ} {s : Shape} {vs : List (Value Part)} → BodyHere m pl p s vs q → Checked pl s (contents m vs)
  body-checked header-only = record { shape = refl; sign = refl; texts = refl; count = refl }
  body-checked (an-asked t) = record { shape = refl; sign = refl; texts = fields-right t; count = refl }
  body-checked (a-plain t) = record { shape = refl; sign = refl; texts = fields-right t; count = refl }
  body-checked (a-failure {c = true} h e) = record { shape = refl; sign = refl; texts = refl; count = refl }
  body-checked (a-failure {c = false} h e) = record { shape = refl; sign = refl; texts = refl; count = refl }
  body-checked (a-success {c = c} {r = r} h e t g) = record { shape = refl; sign = refl; texts = fields-right t; count = count-right c r t g }

  -- ---- and has the known length

  strings-end : {n p q : ℕ} {xs : List Part} → StringsHere m n p xs q → q ≡ p + length (sized_all (map (bytes_in m) xs))
  strings-end no-string = omega arith
  strings-end (a-string-more {x = x} {xs = xs} h t) =
      omega (arith, strings-end t, sized-length h, length-sized (bytes_in m x), length-append (sized (bytes_in m x)) (sized_all (map (bytes_in m) xs)))

  field_end : {k : Kind} {p q : ℕ} {v : Value Part} → FieldHere m k p v q → q ≡ p + length (encode k (content m v))
  field_end (a-num {k = k} {p = p} {n = n} h) = ap (λ (w : ℕ). p + w) (sym (length-bytes_of (width k) (bits k (content m (value_of k n)))))
  field_end (a-string {x = x} h) = omega (arith, sized-length h, length-sized (bytes_in m x))
  field_end (a-bytes {x = x} h) = omega (arith, sized-length h, length-sized (bytes_in m x))
  field_end (a-strings {xs = xs} h t) =
      let n : ℕ = length (map (bytes_in m) xs) in
      omega (arith, strings-end t, length-append (bytes_of 4 (length (map (bytes_in m) xs))) (sized_all (map (bytes_in m) xs)), length-bytes_of 4 (length (map (bytes_in m) xs)))

  fields-end : {ks : List Kind} {p q : ℕ} {vs : List (Value Part)} → FieldsHere m ks p vs q → q ≡ p + length (encode_all ks (contents m vs))
  fields-end no_field = omega arith
  fields-end (a-field-more {k = k} {ks = ks} {v = v} {vs = vs} h t) =
      omega (arith, field_end h, fields-end t, length-append (encode k (content m v)) (encode_all ks (contents m vs)))

  body_end : {pl : Plan} {p q : ℕ} {s : Shape} {vs : List (Value Part)} → BodyHere m pl p s vs q → q ≡ p + length (encode_all (kinds_of pl s) (contents m vs))
  body_end header-only = omega arith
  body_end (an-asked t) = fields-end t
  body_end (a-plain t) = fields-end t
  body_end (a-failure {e = e} h z) =
      omega (arith, length-append (bytes_of 4 (bits_of 4 (negsuc e))) [], length-bytes_of 4 (bits_of 4 (negsuc e)))
  body_end (a-success {ks = ks} {r = r} {vs = vs} h z t c) =
      omega (arith, fields-end t, length-append (bytes_of 4 (bits_of 4 (pos r))) (encode_all ks (contents m vs)), length-bytes_of 4 (bits_of 4 (pos r)))

  encoded-size : {side : Side} {s : Shape} {i t k : ℕ} {vs : List (Value Part)} → MessageHere side m s i t vs k
      → length (encode_message side s i t (contents m vs)) ≡ k
  unfolding encode_message
  encoded-size {side} {s} {i} {t} {vs = vs} h =
      let e : List ℕ = encode_all (kinds_of (plan side t) s) (contents m vs) in
      omega (
        arith,
        body_end h.rest,
        length-append (bytes_of 4 i) (bytes_of 1 t ++ encode_all (kinds_of (plan side t) s) (contents m vs)),
        length-append (bytes_of 1 t) (encode_all (kinds_of (plan side t) s) (contents m vs)),
        length-bytes_of 4 i,
        length-bytes_of 1 t,
      )

-- ---- a writer that is given what was read

-- the known part, where there is room for it
pub written-checked : (side : Side) (m : List ℕ) {s : Shape} {i t k : ℕ} {vs : List (Value Part)} → read side m ≡ accepted s i t vs k → Bytes m
    → (out : List ℕ) → write side s i t (contents m vs) true out
    ≡ check buffer_too_small (leb k (length out)) out (record { told = stored k; buffer = normalised side s t vs m ++ drop k out })
unfolding write store_checked
written-checked side m {s} {i} {t} {k} {vs} a by out =
    let h : MessageHere side m s i t vs k = message-traced a in
    let c = body-checked h.rest in
    let size : length (encode_message side s i t (contents m vs)) ≡ k = encoded-size h in
    let small : k ≤ longest = omega (arith, known-inside h, h.short) in
    rw (c.shape, c.sign, c.texts, c.count, size, le-leb k longest small, message-again by h)

pub written-again : (side : Side) (m : List ℕ) {s : Shape} {i t k : ℕ} {vs : List (Value Part)} → read side m ≡ accepted s i t vs k → Bytes m
    → (out : List ℕ) → k ≤ length out
    → write side s i t (contents m vs) true out ≡ record { told = stored k; buffer = normalised side s t vs m ++ drop k out }
written-again side m {k = k} a by out l = rw (le-leb k (length out) l) at (written-checked side m a by out)
