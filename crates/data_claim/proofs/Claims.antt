-- A read reply that the reader accepts claims what it carries, and what the writer stored is such a reply. Assumes nothing.
use Prim.Native.Nat.{ℕ, ◌+◌, ◌≤◌, ◌<◌, ◌^◌}
use mathlib.Core.Path.{◌≡◌, refl, sym, ap, subst, ◌∙◌}
use mathlib.Core.Bool.{true}
use mathlib.Core.List.{List, [], ◌∷◌}
use native.Mathlib.Omega.{arith}
use lib.Dec.{lit<}
use lib.IntN.{ℤ, pos}
use lib.ListN.{length, take, drop, length-drop}
use lib.Seq.{length-take-le}
use borrow.Author.Tests.{le-leb}
use Rattle.number.specs.TwosComplement.{Signed}
use Rattle.method.specs.declared.Method.TheVariants.{Read}
use Rattle.method.specs.Methods.{reply_number, of_reply}
use Rattle.layout.specs.Limits.{header_size}
use Rattle.layout.specs.Kinds.{bytes}
use Rattle.layout.specs.Table.{reply, plan, led}
use Rattle.layout.specs.Values.{Part, Value, signed, run, bytes_in, contents, AllFit, none, more, fits-num, fits-i32, fits-bytes}
use Rattle.layout.specs.Reading.{success, accepted, read}
use Rattle.layout.specs.Pieces.{kinds_of}
use Rattle.layout.specs.Parts.{fields_of, part_named}
use Rattle.layout.specs.Writing.{stored, length_of}
use Rattle.layout.proofs.Trace.{a-field-more, a-bytes, sized-here, no_field, BodyHere, a-success, message-traced}
use Rattle.wire.specs.declared.Run.{Run}
use Rattle.wire.specs.Runs.{part_of, shown}
use Rattle.message_writer.specs.declared.Written.{Written}
use Rattle.message_writer.specs.Writers.{told_of, Wrote}
use Rattle.message_writer.proofs.Finished.{stored-told}
use Rattle.reply_reader.specs.declared.Reply.TheVariants as R
use Rattle.reply_reader.specs.declared.ReplyAnswer.TheVariants as A
use Rattle.reply_reader.specs.Answers.{answer_of}
use Rattle.reply_writer.specs.Replying.{replying}
use Rattle.round_trip.proofs.Trips.{finished}
use Rattle.data_claim.specs.declared.Carried.{Carried}
use Rattle.data_claim.specs.Claims.{Carries, ReadReply}

read-plan : plan reply (reply_number Read) ≡ led true (bytes ∷ [])
unfolding plan of_reply
read-plan = refl

-- ---- a success of read that was accepted

-- its values are a result and the data, which lies inside the message and which the result counts
record Counted (m : List ℕ) (vs : List (Value Part)) : Type 0 where
  content : Part
  is : vs ≡ signed (pos content.size) ∷ run content ∷ []
  inside : content.start + content.size ≤ length m

counted : (m : List ℕ) {i k : ℕ} {vs : List (Value Part)} → read reply m ≡ accepted success i (reply_number Read) vs k → Counted m vs
counted m a = go (rw read-plan at (message-traced a).rest)
  where
    go : {vs : List (Value Part)} {q : ℕ} → BodyHere m (led true (bytes ∷ [])) header_size success vs q → Counted m vs
    go (a-success g f (a-field-more (a-bytes {x = x} (sized-here h r)) no_field) c) =
        record { content = x; is = ap (λ (n : ℕ). signed (pos n) ∷ run x ∷ []) c; inside = r.fits }

module _ (m : List ℕ) (x : Part) (h : x.start + x.size ≤ length m) where
  part-size : length (bytes_in m x) ≡ x.size
  part-size = length-take-le x.size (drop x.start m) (omega (arith, h, length-drop x.start m))

  shown-size : length (shown m x) ≡ x.size
  unfolding shown
  shown-size = rw (le-leb (x.start + x.size) (length m) h) part-size

-- the result is the number of bytes that the data shows
pub carries : (m : List ℕ) {i k : ℕ} {z : ℤ} {x : Part} → read reply m ≡ accepted success i (reply_number Read) (signed z ∷ run x ∷ []) k → z ≡ pos (length (shown m x))
carries m {z = z} {x = x} a =
    let c = counted m a in
    let e : signed z ∷ run x ∷ [] ≡ signed (pos c.content.size) ∷ run c.content ∷ [] = c.is in
    let same : c.content ≡ x = cc in
    let size : z ≡ pos c.content.size = cc in
    size ∙ ap pos (sym (shown-size m c.content c.inside) ∙ ap (λ (y : Part). length (shown m y)) same)

-- the data of a success of read
pub its-data : (m : List ℕ) (i k : ℕ) (z : ℤ) (x : Run) → part_named reply "data" (answer_of m (A.Success i z (R.Read x) k)) ≡ part_of x
unfolding fields_of of_reply
its-data m i k z x = refl

data-named : (i k : ℕ) (z : ℤ) (x : Part) → part_named reply "data" (accepted success i (reply_number Read) (signed z ∷ run x ∷ []) k) ≡ x
unfolding fields_of of_reply
data-named i k z x = refl

-- ---- a reply that was written

module _ (i : ℕ) (z : ℤ) (d out : List ℕ) (hi : i < 256 ^ 4) (hz : Signed 4 z) {after : List ℕ} {w : Written} (wrote : Wrote (replying Read i (signed z ∷ run d ∷ []) out) after w) where
  its-fields : AllFit (kinds_of (plan reply (reply_number Read)) success) (signed z ∷ run d ∷ [])
  its-fields = rw read-plan (more (fits-num (fits-i32 hz)) (more (fits-bytes d) none))

  pub written-claims : {r : Carried} → Carries (take (length_of (told_of w)) after) r → {n : ℕ} → told_of w ≡ stored n → ReadReply i z d (take n after) n r
  written-claims {r} c {n} e =
      let b =
      finished reply success i (reply_number Read) (signed z ∷ run d ∷ []) true out hi (lit< tt) its-fields
      (subst (λ (x : Written). Wrote (replying Read i (signed z ∷ run d ∷ []) out) after x) (stored-told w e) wrote) in
      let h : Carries (take n after) r = subst (λ (k : ℕ). Carries (take k after) r) (ap length_of e) c in
      let s = counted (take n after) b.is in
      let x = s.content in
      let says : signed (pos x.size) ∷ run (bytes_in (take n after) x) ∷ [] ≡ signed z ∷ run d ∷ [] = ap (contents (take n after)) (sym s.is) ∙ b.says in
      let size : pos x.size ≡ z = cc in
      let data_is : bytes_in (take n after) x ≡ d = cc in
      let long : x.size ≡ length d = sym (part-size (take n after) x s.inside) ∙ ap length data_is in
      let read-so : answer_of (take n after) r.answer ≡ accepted success i (reply_number Read) (signed z ∷ run x ∷ []) n =
      h.reads ∙ b.is ∙ ap (λ (vs : List (Value Part)). accepted success i (reply_number Read) vs n) s.is ∙ ap (λ (y : ℤ). accepted success i (reply_number Read) (signed y ∷ run x ∷ []) n) size in
      record {
        content = x;
        is = read-so;
        bytes = data_is;
        claims = sym size ∙ ap pos long;
        carries = h.carries ∙ ap (λ a. length (shown (take n after) (part_named reply "data" a))) read-so ∙ ap (λ (y : Part). length (shown (take n after) y)) (data-named i n z x) ∙ shown-size (take n after) x s.inside ∙ long;
      }
