-- From the fields that were read to the answer. Assumes nothing.
use mathlib.Core.Path.{◌≡◌, refl, sym, ap, ◌∙◌}
use mathlib.Core.Bool.{Bool, true, false, cond}
use mathlib.Core.List.{List, [], ◌∷◌}
use Prim.Native.Nat.{ℕ, ◌<◌}
use native.Mathlib.Omega.{arith}
use lib.Dec.{eqb}
use lib.IntN.{ℤ, pos, negsuc, nat_abs}
use lib.Signed.{lt_z}
use mir.Syntax.{w32}
use mir.Val.{SFits}
use borrow.Author.Tests.{eq-eqb, ne_eqb, ltb-true}
use Rattle.number.specs.TwosComplement.{signed_of}
use Rattle.layout.specs.Kinds.{i32, Kind, num}
use Rattle.layout.specs.Refusals.{data_length_mismatch}
use Rattle.layout.specs.Table.{reply, plain, led, plan}
use Rattle.layout.specs.Values.{Part, Value, signed}
use Rattle.layout.specs.Reading.{Outcome, got, fail, followed, seq, mapped, num_at, fields_at, failure, success, Body, body, data_size, succeeded, behind_result, result_place, body_at, message, Answer, refused, accepted, answer}
use Rattle.layout.specs.Parts.{nothing}
use Rattle.layout.proofs.Tests.{apart}
use Rattle.wire.specs.declared.Cursor.{Cursor}
use Rattle.wire.specs.Cursors.{refusal_at}
use Rattle.field_reader.specs.Cursors.{outcome_at, from, Ended, Took, Reads}
use Rattle.field_reader.proofs.Cursors.{push, chain, map-ended, fields-ended}
use Rattle.reply_reader.specs.declared.Reply.{Reply}
use Rattle.reply_reader.specs.Answers.{type_of, values_of, answer_at, success_at, Finished, Compared}

-- ---- the sign of a result

below-zero : (z : ℤ) → lt_z z (pos 0) ≡ true → (x : ℕ) × (z ≡ negsuc x)
below-zero (pos n) h = let l : n < 0 = ltb-true n 0 h in let none : ⊥ = omega arith in absurd none
below-zero (negsuc x) h = (x, refl)

-- zero or more is its own magnitude
pub zero-or-more : (z : ℤ) → lt_z z (pos 0) ≡ false → z ≡ pos (nat_abs z)
zero-or-more (pos n) h = refl
zero-or-more (negsuc x) h = apart (sym h)

pub small_result : (z : ℤ) → SFits w32 z → lt_z z (pos 0) ≡ false → nat_abs z < 0x80000000
small_result (pos n) f h = f.sfits
small_result (negsuc x) f h = apart (sym h)

-- ---- a success

-- the fields of a method were read: the answer is the layout's
pub answered : {m : List ℕ} {c e : Cursor} {i n t : ℕ} {q : Reply} {a : Answer} {ks : List Kind}
    → Finished m i n q e a → type_of q ≡ t → plan reply t ≡ led false ks → Reads m c ks (values_of m q) e → a ≡ success_at m c i t (pos n)
unfolding success_at
answered {i = i} {n = n} {t = t} {q = q} {ks = ks} f s p r =
    rw p (f.is ∙ rw s (ap answer (map-ended (message i t) (mapped (λ vs. body success (signed (pos n) ∷ vs)) (fields_at ks)) (map-ended (λ vs. body success (signed (pos n) ∷ vs)) (fields_at ks) (fields-ended r))).is))

-- the same where the result is compared with the data
pub answered-counted : {m : List ℕ} {c d e : Cursor} {i n t size : ℕ} {q : Reply} {a : Answer} {ks : List Kind}
    → Finished m i n q e a → type_of q ≡ t → plan reply t ≡ led true ks → Reads m c ks (values_of m q) d → Compared d size n e → data_size (values_of m q) ≡ size
    → a ≡ success_at m c i t (pos n)
unfolding success_at
answered-counted {m = m} {c = c} {d = d} {e = e} {i = i} {n = n} {t = t} {q = q} {ks = ks} f s p r k z =
    let all : Body = body success (signed (pos n) ∷ values_of m q) in
    let after : Ended m d (succeeded true n (values_of m q)) all all e = record { is = rw z (k.is all); empty = λ h. refl } in
    rw p
    (f.is
    ∙ rw s
    (ap answer
    (map-ended {d = e} (message i t) (seq (fields_at ks) (λ vs. succeeded true n vs)) {a = all} (chain (fields_at ks) (λ vs. succeeded true n vs) (fields-ended r) after)).is))

-- ---- a reply without a result

pub answered-plain : {m : List ℕ} {c e : Cursor} (i t : ℕ) {ks : List Kind} {vs : List (Value Part)} → plan reply t ≡ plain ks → Reads m c ks vs e
    → answer (outcome_at e (message i t (body success vs))) ≡ answer_at m c i t
unfolding answer_at
answered-plain i t {ks = ks} p r =
    rw p (ap answer (map-ended (message i t) (mapped (body success) (fields_at ks)) (map-ended (body success) (fields_at ks) (fields-ended r))).is)

-- ---- the result leads on

module _ {m : List ℕ} {c d : Cursor} {z : ℤ} (k : Bool) (ks : List Kind) (h : Took m c (num i32) (signed z) d) where
  same : (o : Outcome ℕ) → ◌≡◌ {A = Outcome (Value Part)} (outcome_at d (signed z)) (followed o (λ n q. got (signed (signed_of 4 n)) q))
      → followed o (λ n q. behind_result k ks (signed_of 4 n) m q) ≡ from d (behind_result k ks z) m
  same (got n q) e = go (eqb d.code 0) e
    where
      go : (b : Bool) → ◌≡◌ {A = Outcome (Value Part)} (cond b (got (signed z) d.at) (fail d.code d.at)) (got (signed (signed_of 4 n)) q)
          → behind_result k ks (signed_of 4 n) m q ≡ cond b (behind_result k ks z m d.at) (fail d.code d.at)
      go true e =
          let s : signed_of 4 n ≡ z = cc in
          let p : q ≡ d.at = cc in
          rw (s, p)
      go false e = let y : false ≡ true = cc in apart y
  same (fail x y) e = go (eqb d.code 0) e
    where
      go : (b : Bool) → ◌≡◌ {A = Outcome (Value Part)} (cond b (got (signed z) d.at) (fail d.code d.at)) (fail x y)
          → fail x y ≡ cond b (behind_result k ks z m d.at) (fail d.code d.at)
      go true e = let y : false ≡ true = cc in apart y
      go false e = cc

  result-read : from c (body_at (led k ks)) m ≡ from d (behind_result k ks z) m
  result-read =
      push (eqb c.code 0) (num_at 4 m c.at) c.code c.at (λ n q. behind_result k ks (signed_of 4 n) m q)
      ∙ same (from c (num_at 4) m) (h.is ∙ push (eqb c.code 0) (num_at 4 m c.at) c.code c.at (λ n q. got (signed (signed_of 4 n)) q))

  pub leads-on : (i t : ℕ) → plan reply t ≡ led k ks → success_at m d i t z ≡ answer_at m c i t
  unfolding success_at answer_at
  leads-on i t p =
      rw p
      (ap answer
      (push (eqb d.code 0) (behind_result k ks z m d.at) d.code d.at (λ b q. got (message i t b) q)
      ∙ ap (λ (o : Outcome Body). followed o (λ b q. got (message i t b) q)) (sym result-read)
      ∙ sym (push (eqb c.code 0) (body_at (led k ks) m c.at) c.code c.at (λ b q. got (message i t b) q))))

module _ (m : List ℕ) (d : Cursor) (z : ℤ) (i t : ℕ) where
  pub result-refused : (d.code ≡ 0 → ⊥) → refused d.code d.at ≡ success_at m d i t z
  unfolding success_at
  result-refused n = rw (ne_eqb d.code 0 n)

  pub result-failure : {k : Bool} {ks : List Kind} → plan reply t ≡ led k ks → d.code ≡ 0 → lt_z z (pos 0) ≡ true
      → accepted failure i t (signed z ∷ []) d.at ≡ success_at m d i t z
  unfolding success_at
  result-failure p n h = rw (p, (below-zero z h).1, eq-eqb d.code 0 n)

-- ---- the comparison of a read reply

pub compared-refused : (d : Cursor) (size n : ℕ) → (d.code ≡ 0 → ⊥) → Compared d size n d
compared-refused d size n h = record { is = λ b. rw (ne_eqb d.code 0 h) }

pub compared_same : (d : Cursor) (size n : ℕ) → d.code ≡ 0 → size ≡ n → Compared d size n d
compared_same d size n h e = record { is = λ b. rw (eq-eqb d.code 0 h, eq-eqb n size (sym e)) }

pub compared-other : (d : Cursor) (size n : ℕ) → d.code ≡ 0 → (size ≡ n → ⊥) → Compared d size n (refusal_at data_length_mismatch result_place)
compared-other d size n h e = record { is = λ b. rw (eq-eqb d.code 0 h, ne_eqb n size (λ f. e (sym f))) }
