-- From what the reader and the writer promise to what the front does. Assumes nothing.
use mathlib.Core.Path.{◌≡◌, refl, sym, ap, subst, ◌∙◌}
use mathlib.Core.Bool.{Bool, true, false, cond}
use mathlib.Core.List.{List, [], ◌∷◌, ◌++◌}
use Prim.Native.Nat.{ℕ, ◌+◌, ◌≤◌, ◌<◌}
use native.Mathlib.Decide.{dec_lt}
use native.Mathlib.Omega.{arith}
use lib.Dec.{leb}
use lib.ListN.{length}
use borrow.Author.Tests.{le-leb, eq-eqb, ne_eqb}
use Rattle.number.specs.BigEndian.{bytes_of}
use Rattle.method.specs.Methods.{reply_offset}
use Rattle.layout.specs.Kinds.{Kind}
use Rattle.layout.specs.Refusals.{truncated_header, oversize}
use Rattle.layout.specs.Limits.{header_size, longest}
use Rattle.layout.specs.Table.{request, reply, unknown_response, led, HasFields, plan}
use Rattle.layout.specs.Values.{Part, Value, signed}
use Rattle.layout.specs.Reading.{unknown, known, failure, refused as not-read, accepted, read}
use Rattle.layout.specs.Writing.{encode_message, WriteOutcome, store_checked, write}
use Rattle.layout.specs.Front.{id_of, type_of, unknown_reply, invalid, invalid_reply, handed-on, refused, reply-with, settle, front}
use Rattle.layout.proofs.Header.{read-truncated-header}
use Rattle.layout.proofs.Trace.{message-traced}
use Rattle.layout.proofs.ReplyTypes.{led-type}
use Rattle.layout.proofs.Fronting.{front-accepted, length-unknown_reply, length-invalid_reply}
use Rattle.message_writer.specs.declared.Written.{Written}
use Rattle.message_writer.specs.Writers.{told_of, Wrote}
use Rattle.front.specs.declared.Fronted.{Fronted}
use Rattle.front.specs.Acts.{act_of, act_told, Fronts, RefusedWith}

-- what was stored with no check but that of the room is what the front stores
settled : (e l : List ℕ) {n : List ℕ} {w : Written} {r : Fronted} → length e ≤ longest → Wrote (store_checked e l) n w → act_of r ≡ act_told (told_of w)
    → Fronts (settle (reply-with e) l) n r
unfolding store_checked
settled e l {n} {w} {r} s h t = go (leb (length e) (length l)) refl
  where
    go : (b : Bool) → leb (length e) (length l) ≡ b → Fronts (settle (reply-with e) l) n r
    go true f = record { acts = rw f (t ∙ ap act_told h.tells ∙ rw (le-leb (length e) longest s, f)); leaves = rw f (h.leaves ∙ rw (le-leb (length e) longest s, f)) }
    go false f = record { acts = rw f (t ∙ ap act_told h.tells ∙ rw (le-leb (length e) longest s, f)); leaves = rw f (h.leaves ∙ rw (le-leb (length e) longest s, f)) }

-- the unknown response is that of the front
response-is : (i : ℕ) (l : List ℕ) → write reply unknown i unknown_response [] true l ≡ store_checked (unknown_reply i) l
unfolding write plan encode_message unknown_reply bytes_of
response-is i l = refl

pub response-settles : (i : ℕ) (l : List ℕ) {n : List ℕ} {w : Written} {r : Fronted} → Wrote (write reply unknown i unknown_response [] true l) n w
    → act_of r ≡ act_told (told_of w) → Fronts (settle (reply-with (unknown_reply i)) l) n r
response-settles i l {n} {w} h t =
    settled (unknown_reply i) l (omega (arith, length-unknown_reply i)) (subst (λ (o : WriteOutcome). Wrote o n w) (response-is i l) h) t

-- a failure of a method with fields is that of the front
invalid-is : (i t : ℕ) (l : List ℕ) {count : Bool} {ks : List Kind} → plan reply (t + reply_offset) ≡ led count ks
    → write reply failure i (t + reply_offset) (signed invalid ∷ []) true l ≡ store_checked (invalid_reply i t) l
unfolding write encode_message invalid_reply bytes_of
invalid-is i t l {count = true} p = rw p
invalid-is i t l {count = false} p = rw p

pub invalid-settles : (i t : ℕ) (l : List ℕ) {n : List ℕ} {w : Written} {r : Fronted} → HasFields t → Wrote (write reply failure i (t + reply_offset) (signed invalid ∷ []) true l) n w
    → act_of r ≡ act_told (told_of w) → Fronts (settle (reply-with (invalid_reply i t)) l) n r
invalid-settles i t l {n} {w} f h a =
    let p = led-type (t + reply_offset) (omega (arith, f.0), omega (arith, f.1)) in
    settled (invalid_reply i t) l (omega (arith, length-invalid_reply i t)) (subst (λ (o : WriteOutcome). Wrote o n w) (invalid-is i t l p.is) h) a

-- ---- by what the reader answers

pub known-handed-on : (m l : List ℕ) {i t k : ℕ} {vs : List (Value Part)} {r : Fronted} → read request m ≡ accepted known i t vs k → act_of r ≡ handed-on → Fronts (front m l) l r
known-handed-on m l e a = let f = front-accepted (message-traced e) l in record { acts = rw f a; leaves = rw f }

pub unknown-answered : (m l : List ℕ) {i t k : ℕ} {vs : List (Value Part)} {n : List ℕ} {r : Fronted} → read request m ≡ accepted unknown i t vs k
    → Fronts (settle (reply-with (unknown_reply i)) l) n r → Fronts (front m l) n r
unknown-answered m l e h = rw (front-accepted (message-traced e) l) h

-- a header that is not refused is whole
pub header-whole : (m : List ℕ) {n : ℕ} → RefusedWith m n → (n ≡ truncated_header → ⊥) → header_size ≤ length m
header-whole m {n} q a = go (dec_lt (length m) header_size)
  where
    go : Dec (length m < header_size) → header_size ≤ length m
    go (yes h) = absurd (a (let r : not-read n q.place ≡ not-read truncated_header 0 = sym q.is ∙ read-truncated-header request m h in cc))
    go (no h) = omega arith

module _ (m l : List ℕ) {n : ℕ} (q : RefusedWith m n) where
  pub header_refused : n ≡ truncated_header → {r : Fronted} → act_of r ≡ refused truncated_header 0 → Fronts (front m l) l r
  unfolding front
  header_refused e a = record { acts = rw (q.is, e) a; leaves = rw (q.is, e) }

  pub oversize-answered : n ≡ oversize → {o : List ℕ} {r : Fronted} → Fronts (settle (reply-with (unknown_reply (id_of m))) l) o r → Fronts (front m l) o r
  unfolding front
  oversize-answered e h = rw (q.is, e) h

  pub invalid-answered : (n ≡ truncated_header → ⊥) → (n ≡ oversize → ⊥) → {o : List ℕ} {r : Fronted} → Fronts (settle (reply-with (invalid_reply (id_of m) (type_of m))) l) o r
      → Fronts (front m l) o r
  unfolding front
  invalid-answered a b h = rw (q.is, ne_eqb n truncated_header a, ne_eqb n oversize b) h
