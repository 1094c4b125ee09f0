-- What was written is accepted and reads back as the same values, texts and names by their bytes. Assumes nothing.
use mathlib.Core.Path.{◌≡◌, refl, sym, ap, ap₂, ◌∙◌, subst}
use mathlib.Core.Bool.{Bool, true, false, not, ◌&&◌, cond}
use mathlib.Core.List.{List, [], ◌∷◌, ◌++◌, append-nil, map}
use Prim.Native.Nat.{ℕ, zero, suc, ◌+◌, ◌^◌, ◌≤◌, ◌<◌}
use native.Mathlib.Nat.{add_assoc, add-zero}
use native.Mathlib.Omega.{arith}
use lib.Dec.{leb, eqb}
use lib.IntN.{ℤ, pos, negsuc}
use lib.ListN.{length, take, drop, length-append, length-drop}
use lib.Seq.{take-add, drop-drop, take_at, drop_at, length-take-le, take-append_seam, take-length}
use borrow.Author.Tests.{eqb-true, leb-true}
use Rattle.number.specs.BigEndian.{be, bytes_of}
use Rattle.number.specs.TwosComplement.{signed_of, bits_of, Signed, not_negative, negative as negative-signed}
use Rattle.number.proofs.BigEndian.{length-bytes_of, be-bytes_of}
use Rattle.number.proofs.TwosComplement.{signed-bits, bits_below}
use Rattle.text.specs.Utf8.{well_formed}
use Rattle.layout.specs.Kinds.{Num, u8, i8, u32, i32, u64, bool, width, Kind, num, string, bytes, strings}
use Rattle.layout.specs.Refusals.{oversize, unexpected_type, malformed_text, data_length_mismatch, buffer_too_small, result_sign, lengths_mismatch}
use Rattle.layout.specs.Limits.{header_size, longest}
use Rattle.layout.specs.Table.{Side, Plan, unexpected, header, asked, plain, led, plan}
use Rattle.layout.specs.Values.{Part, part, Value, number, signed, truth, run, runs, run_of, runs_of, bytes_in, content, contents, NumFits, fits-u8, fits-u32, fits-u64, fits-i8, fits-i32, fits_bool, Fits, fits-num, fits-string, fits-bytes, fits-strings, AllFit, none, more}
use Rattle.layout.specs.Reading.{any_bytes, value_of, Shape, unknown, known, failure, success, data_size, accepted, read}
use Rattle.layout.specs.Pieces.{kinds_of}
use Rattle.layout.specs.Writing.{bit, bits, sized, sized_all, encode, encode_all, encode_message, has_shape, negative, sign_right, all_well_formed, text_right, texts_right, data_length, counts, count_right, Told, stored, refused, WriteOutcome, check, refuse, store, store_checked, write}
use Rattle.layout.proofs.Tests.{apart, and_both}
use Rattle.layout.proofs.Agreement.{part_length}
use Rattle.layout.proofs.Trace.{NumHere, RunHere, SizedHere, sized-here, StringsHere, no-string, a-string-more, FieldHere, a-num, a-string, a-bytes, a-strings, FieldsHere, no_field, a-field-more, Counted, BodyHere, header-only, an-asked, a-plain, a-failure, a-success, MessageHere, message-reads}

-- ---- bytes that stand in a message

-- the bytes e stand at p in m
pub record Stands (e m : List ℕ) (p : ℕ) : Type 0 where
  pub fits : p + length e ≤ length m
  pub is : take (length e) (drop p m) ≡ e

module _ {m : List ℕ} {p : ℕ} where
  pub stands-split : (a b : List ℕ) → Stands (a ++ b) m p → Stands a m p × Stands b m (p + length a)
  stands-split a b s =
      let n : length (a ++ b) ≡ length a + length b = length-append a b in
      let f : p + length (a ++ b) ≤ length m = s.fits in
      let l : length (take (length a) (drop p m)) ≡ length a = part_length p (length a) m (omega arith) in
      let both : take (length a) (drop p m) ++ take (length b) (drop (length a) (drop p m)) ≡ a ++ b =
      sym (take-add (length a) (length b) (drop p m)) ∙ ap (λ (k : ℕ). take k (drop p m)) (sym n) ∙ s.is in (
        record {
          fits = omega arith;
          is = sym (take_at (take (length a) (drop p m)) (take (length b) (drop (length a) (drop p m))) (length a) l)
              ∙ ap (take (length a)) both
              ∙ take-append_seam a b;
        },
        record {
          fits = omega arith;
          is = ap (take (length b)) (sym (drop-drop (length a) p m))
              ∙ sym (drop_at (take (length a) (drop p m)) (take (length b) (drop (length a) (drop p m))) (length a) l)
              ∙ ap (drop (length a)) both
              ∙ drop_at a b (length a) refl;
        },
      )

  num-stands : (w n : ℕ) → n < 256 ^ w → Stands (bytes_of w n) m p → NumHere w m p n
  num-stands w n h s =
      let l : length (bytes_of w n) ≡ w = length-bytes_of w n in
      record {
        fits = subst (λ (k : ℕ). p + k ≤ length m) l s.fits;
        is = ap be (ap (λ (k : ℕ). take k (drop p m)) (sym l) ∙ s.is) ∙ be-bytes_of w n h;
      }

  run-stands : {valid : List ℕ → Bool} (s : List ℕ) → valid s ≡ true → Stands s m p → RunHere valid m p (length s)
  run-stands {valid} s h t = record { fits = t.fits; good = ap valid t.is ∙ h }

-- the whole list stands in itself
pub stands-whole : (e : List ℕ) → Stands e e 0
stands-whole e = record { fits = omega arith; is = take-length e }

-- ---- fields that were written are there, and say what was written

pub length-sized : (s : List ℕ) → length (sized s) ≡ 4 + length s
length-sized s = length-append (bytes_of 4 (length s)) s ∙ ap (λ (k : ℕ). k + length s) (length-bytes_of 4 (length s))

count_fits : (ss : List (List ℕ)) → length ss ≤ length (sized_all ss)
count_fits [] = omega arith
count_fits (s ∷ ss) = omega (arith, count_fits ss, length-append (sized s) (sized_all ss), length-sized s)

bits_fit : {k : Num} {v : Value (List ℕ)} → NumFits k v → bits k v < 256 ^ width k
bits_fit (fits-u8 h) = h
bits_fit (fits-u32 h) = h
bits_fit (fits-u64 h) = h
bits_fit (fits-i8 h) = bits_below 1 h
bits_fit (fits-i32 h) = bits_below 4 h
bits_fit (fits_bool true) = omega arith
bits_fit (fits_bool false) = omega arith

bits-say : {k : Num} {v : Value (List ℕ)} (m : List ℕ) → NumFits k v → content m (value_of k (bits k v)) ≡ v
bits-say m (fits-u8 h) = refl
bits-say m (fits-u32 h) = refl
bits-say m (fits-u64 h) = refl
bits-say m (fits-i8 h) = ap signed (signed-bits 1 h)
bits-say m (fits-i32 h) = ap signed (signed-bits 4 h)
bits-say m (fits_bool true) = refl
bits-say m (fits_bool false) = refl

bits-size : {k : Num} {v : Value (List ℕ)} → NumFits k v → (run_of (part 0 0) (value_of k (bits k v))).size ≡ length (run_of [] v)
bits-size (fits-u8 h) = refl
bits-size (fits-u32 h) = refl
bits-size (fits-u64 h) = refl
bits-size (fits-i8 h) = refl
bits-size (fits-i32 h) = refl
bits-size (fits_bool b) = refl

record StringsBack (m : List ℕ) (p : ℕ) (ss : List (List ℕ)) : Type 0 where
  parts : List Part
  here : StringsHere m (length ss) p parts (p + length (sized_all ss))
  says : map (bytes_in m) parts ≡ ss

record FieldBack (m : List ℕ) (k : Kind) (p : ℕ) (v : Value (List ℕ)) : Type 0 where
  value : Value Part
  here : FieldHere m k p value (p + length (encode k v))
  says : content m value ≡ v
  size : (run_of (part 0 0) value).size ≡ length (run_of [] v)

record FieldsBack (m : List ℕ) (ks : List Kind) (p : ℕ) (vs : List (Value (List ℕ))) : Type 0 where
  values : List (Value Part)
  here : FieldsHere m ks p values (p + length (encode_all ks vs))
  says : contents m values ≡ vs
  size : data_size values ≡ data_length vs

record BodyBack (m : List ℕ) (pl : Plan) (p : ℕ) (s : Shape) (vs : List (Value (List ℕ))) : Type 0 where
  values : List (Value Part)
  here : BodyHere m pl p s values (p + length (encode_all (kinds_of pl s) vs))
  says : contents m values ≡ vs

counts-back : (c : Bool) (ks : List Kind) (r : ℕ) (vs : List (Value (List ℕ))) (ws : List (Value Part)) → data_size ws ≡ data_length vs
    → count_right (led c ks) success (signed (pos r) ∷ vs) ≡ true → Counted c r ws
counts-back true ks r vs ws e h = eqb-true r (data_length vs) h ∙ sym e
counts-back false ks r vs ws e h = tt

module _ {m : List ℕ} (short : length m ≤ longest) where
  sized-back : {valid : List ℕ → Bool} (p : ℕ) (s : List ℕ) → valid s ≡ true → Stands (sized s) m p
      → SizedHere valid m p (part (p + 4) (length s)) × (bytes_in m (part (p + 4) (length s)) ≡ s)
  sized-back p s h t =
      let four : length (bytes_of 4 (length s)) ≡ 4 = length-bytes_of 4 (length s) in
      let b = stands-split (bytes_of 4 (length s)) s t in
      let small : length s < 256 ^ 4 = omega (arith, t.fits, length-sized s) in
      let r : Stands s m (p + 4) = subst (λ (k : ℕ). Stands s m (p + k)) four b.1 in
      (sized-here (num-stands 4 (length s) small b.0) (run-stands s h r), r.is)

  strings-back : (ss : List (List ℕ)) (p : ℕ) → all_well_formed ss ≡ true → Stands (sized_all ss) m p → StringsBack m p ss
  strings-back [] p h t = record { parts = []; here = subst (λ (q : ℕ). StringsHere m 0 p [] q) (sym (add-zero p)) no-string; says = refl }
  strings-back (s ∷ ss) p h t =
      let b = stands-split (sized s) (sized_all ss) t in
      let a = sized-back p s (and_both (well_formed s) (all_well_formed ss) h).0 b.0 in
      let next : p + length (sized s) ≡ p + 4 + length s = omega (arith, length-sized s) in
      let r = strings-back ss (p + 4 + length s) (and_both (well_formed s) (all_well_formed ss) h).1 (subst (λ (q : ℕ). Stands (sized_all ss) m q) next b.1) in
      let end : p + 4 + length s + length (sized_all ss) ≡ p + length (sized s ++ sized_all ss) = omega (arith, length-append (sized s) (sized_all ss), length-sized s) in
      record {
        parts = part (p + 4) (length s) ∷ r.parts;
        here = subst (λ (q : ℕ). StringsHere m (suc (length ss)) p (part (p + 4) (length s) ∷ r.parts) q) end (a-string-more a.0 r.here);
        says = ap₂ ◌∷◌ a.1 r.says;
      }

  field_back : {k : Kind} {v : Value (List ℕ)} → Fits k v → text_right k v ≡ true → (p : ℕ) → Stands (encode k v) m p → FieldBack m k p v
  field_back (fits-num {k = k} {v = v} f) h p t =
      record {
        value = value_of k (bits k v);
        here = subst (λ (w : ℕ). FieldHere m (num k) p (value_of k (bits k v)) (p + w)) (sym (length-bytes_of (width k) (bits k v)))
            (a-num (num-stands (width k) (bits k v) (bits_fit f) t));
        says = bits-say m f;
        size = bits-size f;
      }
  field_back (fits-string s) h p t =
      let a = sized-back p s h t in
      let end : p + 4 + length s ≡ p + length (sized s) = omega (arith, length-sized s) in
      record {
        value = run (part (p + 4) (length s));
        here = subst (λ (q : ℕ). FieldHere m string p (run (part (p + 4) (length s))) q) end (a-string a.0);
        says = ap run a.1;
        size = refl;
      }
  field_back (fits-bytes s) h p t =
      let a = sized-back {valid = any_bytes} p s refl t in
      let end : p + 4 + length s ≡ p + length (sized s) = omega (arith, length-sized s) in
      record {
        value = run (part (p + 4) (length s));
        here = subst (λ (q : ℕ). FieldHere m bytes p (run (part (p + 4) (length s))) q) end (a-bytes a.0);
        says = ap run a.1;
        size = refl;
      }
  field_back (fits-strings ss) h p t =
      let four : length (bytes_of 4 (length ss)) ≡ 4 = length-bytes_of 4 (length ss) in
      let n : length (bytes_of 4 (length ss) ++ sized_all ss) ≡ length (bytes_of 4 (length ss)) + length (sized_all ss) = length-append (bytes_of 4 (length ss)) (sized_all ss) in
      let b = stands-split (bytes_of 4 (length ss)) (sized_all ss) t in
      let small : length ss < 256 ^ 4 = omega (arith, t.fits, count_fits ss) in
      let r = strings-back ss (p + 4) h (subst (λ (k : ℕ). Stands (sized_all ss) m (p + k)) four b.1) in
      let end : p + 4 + length (sized_all ss) ≡ p + length (bytes_of 4 (length ss) ++ sized_all ss) = omega arith in
      record {
        value = runs r.parts;
        here = subst (λ (q : ℕ). FieldHere m strings p (runs r.parts) q) end (a-strings (num-stands 4 (length ss) small b.0) r.here);
        says = ap runs r.says;
        size = refl;
      }

  fields_back : {ks : List Kind} {vs : List (Value (List ℕ))} → AllFit ks vs → texts_right ks vs ≡ true → (p : ℕ) → Stands (encode_all ks vs) m p → FieldsBack m ks p vs
  fields_back none h p t =
      record { values = []; here = subst (λ (q : ℕ). FieldsHere m [] p [] q) (sym (add-zero p)) no_field; says = refl; size = refl }
  fields_back (more {k = k} {v = v} {ks = ks} {vs = vs} f fs) h p t =
      let b = stands-split (encode k v) (encode_all ks vs) t in
      let a = field_back f (and_both (text_right k v) (texts_right ks vs) h).0 p b.0 in
      let r = fields_back fs (and_both (text_right k v) (texts_right ks vs) h).1 (p + length (encode k v)) b.1 in
      let end : p + length (encode k v) + length (encode_all ks vs) ≡ p + length (encode k v ++ encode_all ks vs) = omega (arith, length-append (encode k v) (encode_all ks vs)) in
      record {
        values = a.value ∷ r.values;
        here = subst (λ (q : ℕ). FieldsHere m (k ∷ ks) p (a.value ∷ r.values) q) end (a-field-more a.here r.here);
        says = ap₂ ◌∷◌ a.says r.says;
        size = a.size;
      }

  result-back : {z : ℤ} (p : ℕ) (e : List ℕ) → Signed 4 z → Stands (bytes_of 4 (bits_of 4 z) ++ e) m p
      → NumHere 4 m p (bits_of 4 z) × (signed_of 4 (bits_of 4 z) ≡ z) × Stands e m (p + 4) × (p + 4 + length e ≡ p + length (bytes_of 4 (bits_of 4 z) ++ e))
  result-back {z} p e f t =
      let four : length (bytes_of 4 (bits_of 4 z)) ≡ 4 = length-bytes_of 4 (bits_of 4 z) in
      let b = stands-split (bytes_of 4 (bits_of 4 z)) e t in (
        num-stands 4 (bits_of 4 z) (bits_below 4 f) b.0,
        signed-bits 4 f,
        subst (λ (k : ℕ). Stands e m (p + k)) four b.1,
        omega (arith, length-append (bytes_of 4 (bits_of 4 z)) e),
      )

  body_back : (pl : Plan) (s : Shape) {vs : List (Value (List ℕ))} → AllFit (kinds_of pl s) vs → has_shape pl s ≡ true → sign_right pl s vs ≡ true
      → texts_right (kinds_of pl s) vs ≡ true → count_right pl s vs ≡ true → (p : ℕ) → Stands (encode_all (kinds_of pl s) vs) m p → BodyBack m pl p s vs
  body_back header unknown none a b c d p t =
      record { values = []; here = subst (λ (q : ℕ). BodyHere m header p unknown [] q) (sym (add-zero p)) header-only; says = refl }
  body_back (asked ks) known f a b c d p t =
      let r = fields_back f c p t in record { values = r.values; here = an-asked r.here; says = r.says }
  body_back (plain ks) success f a b c d p t =
      let r = fields_back f c p t in record { values = r.values; here = a-plain r.here; says = r.says }
  body_back (led e ks) failure (more (fits-num (fits-i32 {z = negsuc x} f)) none) a b c d p t =
      let r = result-back {z = negsuc x} p [] f t in
      record {
        values = signed (negsuc x) ∷ [];
        here = subst (λ (q : ℕ). BodyHere m (led e ks) p failure (signed (negsuc x) ∷ []) q) (sym (add-zero (p + 4)) ∙ r.3) (a-failure r.0 r.1);
        says = refl;
      }
  body_back (led e ks) failure (more (fits-num (fits-i32 {z = pos x} f)) none) a b c d p t = apart b
  body_back (led e ks) success (more {vs = vs} (fits-num (fits-i32 {z = pos x} f)) fs) a b c d p t =
      let r = result-back {z = pos x} p (encode_all ks vs) f t in
      let g = fields_back fs c (p + 4) r.2 in
      record {
        values = signed (pos x) ∷ g.values;
        here = subst (λ (q : ℕ). BodyHere m (led e ks) p success (signed (pos x) ∷ g.values) q) r.3
            (a-success r.0 r.1 g.here (counts-back e ks x vs g.values g.size d));
        says = ap₂ ◌∷◌ refl g.says;
      }
  body_back (led e ks) success (more (fits-num (fits-i32 {z = negsuc x} f)) fs) a b c d p t = apart b
  body_back unexpected s f a b c d p t = apart a
  body_back header known f a b c d p t = apart a
  body_back header failure f a b c d p t = apart a
  body_back header success f a b c d p t = apart a
  body_back (asked ks) unknown f a b c d p t = apart a
  body_back (asked ks) failure f a b c d p t = apart a
  body_back (asked ks) success f a b c d p t = apart a
  body_back (plain ks) unknown f a b c d p t = apart a
  body_back (plain ks) known f a b c d p t = apart a
  body_back (plain ks) failure f a b c d p t = apart a
  body_back (led e ks) unknown f a b c d p t = apart a
  body_back (led e ks) known f a b c d p t = apart a

-- ---- a message

-- m is accepted as this, and its values say this
pub record ReadsBack (side : Side) (m : List ℕ) (s : Shape) (i t : ℕ) (vs : List (Value (List ℕ))) : Type 0 where
  pub values : List (Value Part)
  pub reads : read side m ≡ accepted s i t values (length m)
  pub says : contents m values ≡ vs

module _ (side : Side) (s : Shape) (i t : ℕ) (vs : List (Value (List ℕ))) (small-id : i < 256 ^ 4) (small-type : t < 256)
    (fit : AllFit (kinds_of (plan side t) s) vs) where
  -- bytes of a message whose checks are passed
  pub encoded-back : has_shape (plan side t) s ≡ true → sign_right (plan side t) s vs ≡ true → texts_right (kinds_of (plan side t) s) vs ≡ true
      → count_right (plan side t) s vs ≡ true → length (encode_message side s i t vs) ≤ longest → ReadsBack side (encode_message side s i t vs) s i t vs
  unfolding encode_message
  encoded-back a b c d l =
      let e : List ℕ = encode_all (kinds_of (plan side t) s) vs in
      let m : List ℕ = bytes_of 4 i ++ (bytes_of 1 t ++ e) in
      let four : length (bytes_of 4 i) ≡ 4 = length-bytes_of 4 i in
      let one : length (bytes_of 1 t) ≡ 1 = length-bytes_of 1 t in
      let x = stands-split {m = m} {p = 0} (bytes_of 4 i) (bytes_of 1 t ++ e) (stands-whole m) in
      let at4 : Stands (bytes_of 1 t ++ e) m 4 = subst (λ (p : ℕ). Stands (bytes_of 1 t ++ e) m p) (omega arith) x.1 in
      let y = stands-split {m = m} {p = 4} (bytes_of 1 t) e at4 in
      let behind : Stands e m header_size = subst (λ (p : ℕ). Stands e m p) (omega arith) y.1 in
      let r = body_back l (plan side t) s fit a b c d header_size behind in
      let end : header_size + length e ≡ length m = omega (arith, length-append (bytes_of 4 i) (bytes_of 1 t ++ e), length-append (bytes_of 1 t) e) in
      record {
        values = r.values;
        reads = message-reads (record {
          short = l;
          id = num-stands 4 i small-id x.0;
          type = num-stands 1 t small-type y.0;
          rest = subst (λ (q : ℕ). BodyHere m (plan side t) header_size s r.values q) end r.here;
        });
        says = r.says;
      }

-- ---- a writer that finished, and one that refused

-- a check that was passed
passed : (c : ℕ) (b : Bool) (out : List ℕ) (w : WriteOutcome) {n : ℕ} → (check c b out w).told ≡ stored n → (b ≡ true) × (w.told ≡ stored n) × ((check c b out w).buffer ≡ w.buffer)
passed c true out w h = (refl, h, refl)
passed c false out w h = let z : false ≡ true = cc in apart z

-- the bytes e are in front of what stays of the buffer
pub record Finished (e out : List ℕ) (n : ℕ) (after : List ℕ) : Type 0 where
  pub small : length e ≤ longest
  pub room : length e ≤ length out
  pub size : n ≡ length e
  pub buffer : after ≡ e ++ drop n out

pub store-finished : (e out : List ℕ) {n : ℕ} → (store_checked e out).told ≡ stored n → Finished e out n (store_checked e out).buffer
unfolding store_checked
store-finished e out {n} h =
    let inner : WriteOutcome = check buffer_too_small (leb (length e) (length out)) out (store e out) in
    let a = passed oversize (leb (length e) longest) out inner h in
    let b = passed buffer_too_small (leb (length e) (length out)) out (store e out) a.1 in
    let size : n ≡ length e = cc b.1 in
    record {
      small = leb-true (length e) longest a.0;
      room = leb-true (length e) (length out) b.0;
      size = size;
      buffer = a.2 ∙ b.2 ∙ ap (λ (k : ℕ). e ++ drop k out) (sym size);
    }

module _ (side : Side) (s : Shape) (i t : ℕ) (vs : List (Value (List ℕ))) (summed : Bool) (out : List ℕ) where
  -- what a finished writer passed, and what it left
  pub record Wrote (n : ℕ) : Type 0 where
    pub shape : has_shape (plan side t) s ≡ true
    pub sign : sign_right (plan side t) s vs ≡ true
    pub lengths : summed ≡ true
    pub texts : texts_right (kinds_of (plan side t) s) vs ≡ true
    pub count : count_right (plan side t) s vs ≡ true
    pub finished : Finished (encode_message side s i t vs) out n (write side s i t vs summed out).buffer

  pub write-finished : {n : ℕ} → (write side s i t vs summed out).told ≡ stored n → Wrote n
  unfolding write
  write-finished h =
      let w5 : WriteOutcome = store_checked (encode_message side s i t vs) out in
      let w4 : WriteOutcome = check data_length_mismatch (count_right (plan side t) s vs) out w5 in
      let w3 : WriteOutcome = check malformed_text (texts_right (kinds_of (plan side t) s) vs) out w4 in
      let w2 : WriteOutcome = check lengths_mismatch summed out w3 in
      let w1 : WriteOutcome = check result_sign (sign_right (plan side t) s vs) out w2 in
      let a = passed unexpected_type (has_shape (plan side t) s) out w1 h in
      let b = passed result_sign (sign_right (plan side t) s vs) out w2 a.1 in
      let c = passed lengths_mismatch summed out w3 b.1 in
      let d = passed malformed_text (texts_right (kinds_of (plan side t) s) vs) out w4 c.1 in
      let e = passed data_length_mismatch (count_right (plan side t) s vs) out w5 d.1 in
      let f = store-finished (encode_message side s i t vs) out e.1 in
      record {
        shape = a.0;
        sign = b.0;
        lengths = c.0;
        texts = d.0;
        count = e.0;
        finished = record { small = f.small; room = f.room; size = f.size; buffer = a.2 ∙ b.2 ∙ c.2 ∙ d.2 ∙ e.2 ∙ f.buffer };
      }

  -- what it stored is accepted, and its values say what was written
  pub written_back : i < 256 ^ 4 → t < 256 → AllFit (kinds_of (plan side t) s) vs → {n : ℕ} → (write side s i t vs summed out).told ≡ stored n
      → ReadsBack side (take n (write side s i t vs summed out).buffer) s i t vs
  written_back hi ht fit {n} h =
      let w = write-finished h in
      let e : List ℕ = encode_message side s i t vs in
      let front : e ≡ take n (write side s i t vs summed out).buffer =
      sym (ap (take n) w.finished.buffer ∙ take_at (encode_message side s i t vs) (drop n out) n (sym w.finished.size)) in
      subst (λ (m : List ℕ). ReadsBack side m s i t vs) front
      (encoded-back side s i t vs hi ht fit w.shape w.sign w.texts w.count w.finished.small)

-- where it refuses, the place is 0 and the buffer as it was
pub record Untouched (out : List ℕ) (w : WriteOutcome) : Type 0 where
  pub keeps : {n p : ℕ} → w.told ≡ refused n p → (p ≡ 0) × (w.buffer ≡ out)

check-untouched : {out : List ℕ} {w : WriteOutcome} (c : ℕ) (b : Bool) → Untouched out w → Untouched out (check c b out w)
check-untouched c true u = u
check-untouched c false u = record { keeps = λ h. (cc, refl) }

store-untouched : (e out : List ℕ) → Untouched out (store e out)
store-untouched e out = record { keeps = λ h. let z : false ≡ true = cc in apart z }

pub write-untouched : (side : Side) (s : Shape) (i t : ℕ) (vs : List (Value (List ℕ))) (summed : Bool) (out : List ℕ) → Untouched out (write side s i t vs summed out)
unfolding write store_checked
write-untouched side s i t vs summed out =
    let e : List ℕ = encode_message side s i t vs in
    check-untouched unexpected_type (has_shape (plan side t) s)
    (check-untouched result_sign (sign_right (plan side t) s vs)
    (check-untouched lengths_mismatch summed
    (check-untouched malformed_text (texts_right (kinds_of (plan side t) s) vs)
    (check-untouched data_length_mismatch (count_right (plan side t) s vs)
    (check-untouched oversize (leb (length e) longest)
    (check-untouched buffer_too_small (leb (length e) (length out)) (store-untouched e out)))))))
