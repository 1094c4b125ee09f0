-- Laws of how a writer begins and ends. Assumes nothing.
use mathlib.Core.Path.{◌≡◌, refl, sym, ap, subst, ◌∙◌}
use mathlib.Core.Bool.{Bool, true, false, cond}
use mathlib.Core.List.{List, [], ◌∷◌, ◌++◌, append_assoc, append-nil}
use Prim.Native.Nat.{ℕ, ◌+◌, ◌≤◌, ◌<◌}
use native.Mathlib.Omega.{arith}
use lib.Dec.{leb}
use lib.ListN.{length, length-append}
use borrow.Author.Tests.{eq-eqb, ne_eqb, le-leb, lt-leb, leb-true, leb-false}
use Rattle.number.specs.BigEndian.{bytes_of, overwritten}
use Rattle.number.proofs.BigEndian.{length-bytes_of}
use Rattle.layout.specs.Refusals.{oversize, malformed_text, buffer_too_small}
use Rattle.layout.specs.Limits.{longest}
use Rattle.layout.specs.Writing.{WriteOutcome, check, refuse, store, store_checked}
use Rattle.wire.specs.declared.Cursor.{Cursor}
use Rattle.field_writer.specs.Stored.{room_at, store_at, Put, Puts, none, more, concat}
use Rattle.wire.specs.Cursors.{place, refusal}
use Rattle.field_writer.proofs.Storing.{room-none, room-refused, none-put, each-put}
use Rattle.message_writer.specs.declared.Written.{Written}
use Rattle.message_writer.specs.Writers.{admitted, Ends, Wrote}

-- ---- what is checked before the first byte

module _ (size n : ℕ) where
  pub admit-oversize : longest < size → refusal oversize ≡ admitted true size n
  unfolding admitted
  admit-oversize h = rw (lt-leb size longest h)

  pub admit-no-room : size ≤ longest → n < size → refusal buffer_too_small ≡ admitted true size n
  unfolding admitted
  admit-no-room h r = rw (le-leb size longest h, lt-leb size n r)

  pub admit-found : size ≤ longest → size ≤ n → place 0 ≡ admitted true size n
  unfolding admitted
  admit-found h r = rw (le-leb size longest h, le-leb size n r)

-- ---- a whole message

module _ {l n : List ℕ} {f : Cursor} {es : List (List ℕ)} {r : Written} (end : Ends f r) where
  refusing : (k : ℕ) → 0 < k → Puts l (refusal k) es n f → Wrote (refuse k l) n r
  refusing k h q =
      let s = none-put q (λ (z : k ≡ 0). omega arith) in
      record { tells = end.is ∙ rw (s.1, ne_eqb k 0 (λ (z : k ≡ 0). omega arith)); leaves = s.0 }

  storing : (e : List ℕ) → concat es ≡ e → length e ≤ length l → Puts l (place 0) es n f → Wrote (store e l) n r
  unfolding overwritten
  storing e same h q =
      let zero-plus : 0 + length e ≡ length e = omega arith in
      let fits : 0 + length (concat es) ≤ length l = rw same (omega arith) in
      let s = each-put q refl fits in
      let at : f.at ≡ length e = s.2 ∙ rw (same, zero-plus) in
      record { tells = end.is ∙ rw (eq-eqb f.code 0 s.1, at); leaves = s.0 ∙ rw (same, zero-plus) }

  -- where the test fails, the refusal; else what follows
  pub tested : (k : ℕ) → 0 < k → (ok : Bool) (c : Cursor) (w : WriteOutcome) → (Puts l c es n f → Wrote w n r) → Puts l (cond ok c (refusal k)) es n f → Wrote (check k ok l w) n r
  tested k h true c w then q = then q
  tested k h false c w then q = refusing k h q

  -- the pieces of a message that was checked are stored as the layout's writer stores it
  pub wrote : (ok : Bool) (e : List ℕ) → concat es ≡ e → Puts l (admitted ok (length e) (length l)) es n f
      → Wrote (check malformed_text ok l (store_checked e l)) n r
  unfolding admitted store_checked
  wrote ok e same =
      tested malformed_text (omega arith) ok _ _
      (tested oversize (omega arith) (leb (length e) longest) _ _ (go (leb (length e) (length l)) refl))
    where
      go : (b : Bool) → leb (length e) (length l) ≡ b → Puts l (cond b (place 0) (refusal buffer_too_small)) es n f
          → Wrote (check buffer_too_small b l (store e l)) n r
      go false h q = refusing buffer_too_small (omega arith) q
      go true h q = storing e same (leb-true (length e) (length l) h) q

-- a message that passed these checks is not longer than the longest
admitted-size : (ok : Bool) (size n : ℕ) → (admitted ok size n).code ≡ 0 → size ≤ longest
unfolding admitted
admitted-size false size n z = let none : ⊥ = omega arith in absurd none
admitted-size true size n z = go (leb size longest) refl z
  where
    go : (b : Bool) → leb size longest ≡ b → (cond b (cond (leb size n) (place 0) (refusal buffer_too_small)) (refusal oversize)).code ≡ 0 → size ≤ longest
    go true h z = leb-true size longest h
    go false h z = let none : ⊥ = omega arith in absurd none

pub admitted-within : {c : Cursor} (ok : Bool) (size n : ℕ) → c ≡ admitted ok size n → c.code ≡ 0 → size ≤ longest
admitted-within ok size n e z = admitted-size ok size n (ap (λ (c : Cursor). c.code) (sym e) ∙ z)

-- ---- a header alone

-- a store tests its own room: at the start of the buffer that is the same check
room-admitted : (w n : ℕ) → w ≤ longest → room_at (place 0) w n ≡ room_at (admitted true w n) w n
room-admitted w n h = go (leb w n) refl
  where
    go : (b : Bool) → leb w n ≡ b → room_at (place 0) w n ≡ room_at (admitted true w n) w n
    go true t = ap (λ (c : Cursor). room_at c w n) (admit-found w n h (leb-true w n t))
    go false t =
        let small : n < 0 + w = omega (arith, leb-false w n t) in
        sym (room-none (place 0) w n refl small).is
        ∙ (room-refused (refusal buffer_too_small) w n (λ z. omega arith)).is
        ∙ ap (λ (c : Cursor). room_at c w n) (admit-no-room w n h (leb-false w n t))

-- a message that is its header, stored from the start of the buffer
pub headed : (i t : ℕ) {l n : List ℕ} {f : Cursor} {r : Written} → Ends f r → Put l (place 0) (bytes_of 4 i ++ bytes_of 1 t) n f
    → Wrote (store_checked (bytes_of 4 i ++ (bytes_of 1 t ++ [])) l) n r
headed i t {l} {n} {f} end q = wrote end true whole same (subst (λ (k : ℕ). Puts l (admitted true k (length l)) (header ∷ []) n f) size (more checked none))
  where
    header : List ℕ
    header = bytes_of 4 i ++ bytes_of 1 t

    whole : List ℕ
    whole = bytes_of 4 i ++ (bytes_of 1 t ++ [])

    same : header ++ [] ≡ whole
    same = append_assoc (bytes_of 4 i) (bytes_of 1 t) []

    five : length header ≡ 5
    five = omega (arith, length-append (bytes_of 4 i) (bytes_of 1 t), length-bytes_of 4 i, length-bytes_of 1 t)

    size : length header ≡ length whole
    size = ap length (sym (append-nil header) ∙ same)

    checked : Put l (admitted true (length header) (length l)) header n f
    checked = record { is = q.is ∙ ap (λ (d : Cursor). store_at d header l) (room-admitted (length header) (length l) (omega (arith, five))) }
