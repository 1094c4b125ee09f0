-- From the pieces that were stored to the reply that was written. Assumes nothing.
use mathlib.Core.Path.{◌≡◌, refl, sym, ap, subst, ◌∙◌}
use mathlib.Core.Bool.{Bool, true, false, not, cond, ◌&&◌}
use mathlib.Core.List.{List, [], ◌∷◌, ◌++◌, append_assoc, append-nil}
use Prim.Native.Nat.{ℕ, suc, ◌+◌, ◌≤◌, ◌<◌}
use native.Mathlib.Omega.{arith}
use lib.Dec.{eqb}
use lib.IntN.{ℤ, pos, negsuc, nat_abs}
use lib.Signed.{lt_z}
use lib.ListN.{length, length-append}
use borrow.Author.Tests.{lt-leb}
use Rattle.number.specs.BigEndian.{bytes_of}
use Rattle.number.specs.TwosComplement.{bits_of}
use Rattle.number.proofs.BigEndian.{length-bytes_of}
use Rattle.text.specs.Utf8.{well_formed}
use Rattle.layout.specs.Kinds.{u32, width, Kind, string}
use Rattle.layout.specs.Refusals.{malformed_text, data_length_mismatch, result_sign, unexpected_type}
use Rattle.layout.specs.Limits.{longest, header_size}
use Rattle.layout.specs.Table.{reply, plain, led, plan}
use Rattle.layout.specs.Values.{Value, signed, run}
use Rattle.layout.specs.Reading.{failure, success, fields_place}
use Rattle.layout.specs.Writing.{sized, encode, encode_all, encode_message, has_shape, negative, text_right, texts_right, counts, count_right, write}
use Rattle.layout.proofs.Tests.{apart}
use Rattle.wire.specs.declared.Cursor.{Cursor}
use Rattle.message_writer.specs.declared.Written.{Written}
use Rattle.message_writer.specs.declared.Written.TheVariants.{Refused}
use Rattle.field_writer.specs.Stored.{run_from, Put, Puts, none, more, concat, Fields}
use Rattle.wire.specs.Cursors.{refusal}
use Rattle.message_writer.specs.Writers.{admitted, Ends, Wrote}
use Rattle.field_writer.proofs.Storing.{run-within, puts_then, encodings, concat-encodings, fields-put}
use Rattle.message_writer.proofs.Writers.{admitted-within, tested, wrote}
use Rattle.reply_writer.specs.Replying.{allowed, SuccessStarted}

-- ---- the sign of a result

pub negative-below : (z : ℤ) (vs : List (Value (List ℕ))) → negative (signed z ∷ vs) ≡ lt_z z (pos 0)
negative-below (pos n) vs = sym (lt-leb (suc n) 0 (omega arith))
negative-below (negsuc n) vs = refl

-- a negative result counts nothing, any other what it says
pub below-counts : (z : ℤ) (s : List ℕ) → lt_z z (pos 0) ≡ true → false ≡ counts (signed z ∷ run s ∷ [])
below-counts (pos n) s h = apart (sym (lt-leb (suc n) 0 (omega arith)) ∙ h)
below-counts (negsuc n) s h = refl

pub other-counts : (z : ℤ) (s : List ℕ) → lt_z z (pos 0) ≡ false → eqb (nat_abs z) (length s) ≡ counts (signed z ∷ run s ∷ [])
other-counts (pos n) s h = refl
other-counts (negsuc n) s h = apart (sym h)

-- ---- what is checked before the first byte

module _ (z : ℤ) (size n : ℕ) where
  pub admit-below : (texts counted : Bool) → lt_z z (pos 0) ≡ true → refusal result_sign ≡ allowed z texts counted size n
  unfolding allowed
  admit-below texts counted h = rw h

  pub admit-other : (texts counted : Bool) → lt_z z (pos 0) ≡ false
      → cond texts (cond counted (admitted true size n) (refusal data_length_mismatch)) (refusal malformed_text) ≡ allowed z texts counted size n
  unfolding allowed
  admit-other texts counted h = rw h

-- a success that passed these checks is not longer than the longest message
allowed-size : (z : ℤ) (texts counted : Bool) (size n : ℕ) → (allowed z texts counted size n).code ≡ 0 → size ≤ longest
unfolding allowed
allowed-size z texts counted size n = go (not (lt_z z (pos 0))) texts counted
  where
    go : (a b c : Bool) → (cond a (cond b (cond c (admitted true size n) (refusal data_length_mismatch)) (refusal malformed_text)) (refusal result_sign)).code ≡ 0 → size ≤ longest
    go true true true h = admitted-within true size n refl h
    go true true false h = let none : ⊥ = omega arith in absurd none
    go true false c h = let none : ⊥ = omega arith in absurd none
    go false b c h = let none : ⊥ = omega arith in absurd none

-- ---- a success

-- header and result, and what follows them
abbrev led_bytes : ℕ → ℕ → ℤ → List ℕ → List ℕ
led_bytes i t z rest = bytes_of 4 i ++ (bytes_of 1 t ++ (bytes_of 4 (bits_of 4 z) ++ rest))

led-size : (i t : ℕ) (z : ℤ) (rest : List ℕ) → length (led_bytes i t z rest) ≡ fields_place + length rest
led-size i t z rest =
    omega (
      arith,
      length-append (bytes_of 4 i) (bytes_of 1 t ++ (bytes_of 4 (bits_of 4 z) ++ rest)),
      length-append (bytes_of 1 t) (bytes_of 4 (bits_of 4 z) ++ rest),
      length-append (bytes_of 4 (bits_of 4 z)) rest,
      length-bytes_of 4 i,
      length-bytes_of 1 t,
      length-bytes_of 4 (bits_of 4 z),
    )

-- the pieces are the reply's, and their size was checked
succeeds : (i t : ℕ) (z : ℤ) (vs : List (Value (List ℕ))) {l m n : List ℕ} {d f : Cursor} {es : List (List ℕ)} {r : Written} {count : Bool} {ks : List Kind} {size : ℕ} {texts counted : Bool}
    → SuccessStarted texts counted size l i t z m d → Ends f r → plan reply t ≡ led count ks → texts ≡ texts_right ks vs → counted ≡ count_right (led count ks) success (signed z ∷ vs)
    → concat es ≡ encode_all ks vs → size ≡ fields_place + length (encode_all ks vs) → Puts m d es n f → Wrote (write reply success i t (signed z ∷ vs) true l) n r
unfolding write allowed encode_message
succeeds i t z vs {l} {m} {n} {d} {f} {es} {r} {count} {ks} {size} {texts} {counted} start end p text tally same s q =
    rw (p, negative-below z vs, ← text, ← tally)
    (tested {es = all} end result_sign (omega arith) (not (lt_z z (pos 0))) _ _
    (tested {es = all} end malformed_text (omega arith) texts _ _
    (tested {es = all} end data_length_mismatch (omega arith) counted _ _
    (wrote {es = all} end true e bytes))) stored)
  where
    e : List ℕ
    e = led_bytes i t z (encode_all ks vs)

    all : List (List ℕ)
    all = (bytes_of 4 i ++ bytes_of 1 t) ∷ bytes_of 4 (bits_of 4 z) ∷ es

    bytes : concat all ≡ e
    bytes = rw (same, append_assoc (bytes_of 4 i) (bytes_of 1 t) (bytes_of 4 (bits_of 4 z) ++ encode_all ks vs))

    stored : Puts l (allowed z texts counted (length e) (length l)) all n f
    stored = subst (λ (k : ℕ). Puts l (allowed z texts counted k (length l)) all n f) (s ∙ sym (led-size i t z (encode_all ks vs))) (puts_then start.is q)

-- a success of numbers behind the result
pub numbers-reply : (vs : List (Value (List ℕ))) {l m n : List ℕ} {d f : Cursor} {i t w : ℕ} {z : ℤ} {r : Written} {ks : List Kind}
    → SuccessStarted true true (fields_place + w) l i t z m d → Ends f r → plan reply t ≡ led false ks → true ≡ texts_right ks vs → w ≡ length (encode_all ks vs)
    → Fields m d ks vs n f → Wrote (write reply success i t (signed z ∷ vs) true l) n r
numbers-reply vs {i = i} {t = t} {z = z} {ks = ks} start end p texts size q =
    succeeds i t z vs start end p texts refl (concat-encodings ks vs) (ap (λ (k : ℕ). fields_place + k) size) (fields-put q)

-- a success of numbers behind the result that are stored together
pub group-reply : (vs : List (Value (List ℕ))) {l m n : List ℕ} {d f : Cursor} {i t w : ℕ} {z : ℤ} {r : Written} {ks : List Kind}
    → SuccessStarted true true (fields_place + w) l i t z m d → Ends f r → plan reply t ≡ led false ks → true ≡ texts_right ks vs → w ≡ length (encode_all ks vs)
    → Put m d (encode_all ks vs) n f → Wrote (write reply success i t (signed z ∷ vs) true l) n r
group-reply vs {i = i} {t = t} {z = z} {ks = ks} start end p texts size q =
    succeeds i t z vs start end p texts refl (append-nil (encode_all ks vs)) (ap (λ (k : ℕ). fields_place + k) size) (more q none)

and-true : (a : Bool) → a ≡ a && true
and-true true = refl
and-true false = refl

-- a success of one text or data behind the result
pub run-reply : (s : List ℕ) {l m n : List ℕ} {d f : Cursor} {i t : ℕ} {z : ℤ} {r : Written} {count texts counted : Bool} {k : Kind}
    → SuccessStarted texts counted (length s + 0 + (fields_place + width u32)) l i t z m d → Ends f r → plan reply t ≡ led count (k ∷ []) → encode k (run s) ≡ sized s → texts ≡ text_right k (run s)
    → counted ≡ count_right (led count (k ∷ [])) success (signed z ∷ run s ∷ []) → Put m (run_from d (length s)) (sized s) n f
    → Wrote (write reply success i t (signed z ∷ run s ∷ []) true l) n r
run-reply s {l = l} {m = m} {n = n} {d = d} {f = f} {i = i} {t = t} {z = z} {texts = texts} {counted = counted} {k = k} start end p sizes text tally q =
    succeeds i t z (run s ∷ []) start end p (text ∙ and-true (text_right k (run s))) tally bytes size (more put none)
  where
    put : Put m d (sized s) n f
    put = run-within (allowed-size z texts counted (length s + 0 + (fields_place + width u32)) (length l)) start.is (omega arith) q

    bytes : sized s ++ [] ≡ encode k (run s) ++ []
    bytes = rw sizes

    size : length s + 0 + (fields_place + width u32) ≡ fields_place + length (encode k (run s) ++ [])
    size = rw (← bytes) (omega (arith, length-append (sized s) [], length-append (bytes_of 4 (length s)) s, length-bytes_of 4 (length s)))

-- ---- a reply without a result

pub plain-reply : (i t : ℕ) (s : List ℕ) {l m n : List ℕ} {c d f : Cursor} {r : Written} → c ≡ admitted (well_formed s) (length s + 0 + (header_size + width u32)) (length l)
    → plan reply t ≡ plain (string ∷ []) → Ends f r → Put l c (bytes_of 4 i ++ bytes_of 1 t) m d → Put m (run_from d (length s)) (sized s) n f
    → Wrote (write reply success i t (run s ∷ []) true l) n r
unfolding write encode_message
plain-reply i t s {l} {m} {n} {c} {d} {f} {r} a p end h q =
    rw (p, ← (and-true (well_formed s))) (wrote {es = all} end (well_formed s) e bytes stored)
  where
    e : List ℕ
    e = bytes_of 4 i ++ (bytes_of 1 t ++ (sized s ++ []))

    all : List (List ℕ)
    all = (bytes_of 4 i ++ bytes_of 1 t) ∷ sized s ∷ []

    bytes : concat all ≡ e
    bytes = append_assoc (bytes_of 4 i) (bytes_of 1 t) (sized s ++ [])

    size : length s + 0 + (header_size + width u32) ≡ length e
    size =
        rw (← bytes)
        (omega (
          arith,
          length-append (bytes_of 4 i ++ bytes_of 1 t) (sized s ++ []),
          length-append (bytes_of 4 i) (bytes_of 1 t),
          length-append (sized s) [],
          length-append (bytes_of 4 (length s)) s,
          length-bytes_of 4 i,
          length-bytes_of 1 t,
          length-bytes_of 4 (length s),
        ))

    put : Put m d (sized s) n f
    put = run-within (admitted-within (well_formed s) (length s + 0 + (header_size + width u32)) (length l) a) (more h none) (omega arith) q

    stored : Puts l (admitted (well_formed s) (length e) (length l)) all n f
    stored = subst (λ (k : ℕ). Puts l (admitted (well_formed s) k (length l)) all n f) size (rw (← a) (more h (more put none)))

-- ---- a failure

failure-uncounted : (count : Bool) (ks : List Kind) (vs : List (Value (List ℕ))) → count_right (led count ks) failure vs ≡ true
failure-uncounted true ks vs = refl
failure-uncounted false ks vs = refl

module _ (i t : ℕ) (z : ℤ) (l : List ℕ) where
  pub no-failure-type : has_shape (plan reply t) failure ≡ false → Wrote (write reply failure i t (signed z ∷ []) true l) l (Refused unexpected_type 0)
  unfolding write
  no-failure-type h = record { tells = rw h; leaves = rw h }

  module _ {count : Bool} {ks : List Kind} (p : plan reply t ≡ led count ks) where
    pub no-failure-sign : lt_z z (pos 0) ≡ false → Wrote (write reply failure i t (signed z ∷ []) true l) l (Refused result_sign 0)
    unfolding write
    no-failure-sign h = record { tells = rw (p, negative-below z [], h); leaves = rw (p, negative-below z [], h) }

    pub failed : {n : List ℕ} {c f : Cursor} {r : Written} → c ≡ admitted true fields_place (length l) → lt_z z (pos 0) ≡ true → Ends f r
        → Puts l c ((bytes_of 4 i ++ bytes_of 1 t) ∷ bytes_of 4 (bits_of 4 z) ∷ []) n f → Wrote (write reply failure i t (signed z ∷ []) true l) n r
    unfolding write encode_message
    failed {n} {c} {f} {r} a h end q = rw (p, negative-below z [], h, failure-uncounted count ks (signed z ∷ [])) (wrote end true e (append_assoc (bytes_of 4 i) (bytes_of 1 t) (bytes_of 4 (bits_of 4 z) ++ [])) stored)
      where
        e : List ℕ
        e = led_bytes i t z []

        stored : Puts l (admitted true (length e) (length l)) ((bytes_of 4 i ++ bytes_of 1 t) ∷ bytes_of 4 (bits_of 4 z) ∷ []) n f
        stored = subst (λ (k : ℕ). Puts l (admitted true k (length l)) ((bytes_of 4 i ++ bytes_of 1 t) ∷ bytes_of 4 (bits_of 4 z) ∷ []) n f) (sym (led-size i t z [])) (rw (← a) q)
