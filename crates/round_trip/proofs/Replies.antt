-- Replies through reader and writer, by the promises of the functions. Assumes nothing.
use Prim.Native.Nat.{ℕ, ◌≤◌, ◌<◌, ◌^◌}
use mathlib.Core.Path.{◌≡◌, refl, sym, ap, ◌∙◌}
use mathlib.Core.Bool.{Bool, true, false, cond}
use mathlib.Core.List.{List, [], ◌∷◌, map}
use lib.Dec.{eqb, lit<}
use lib.IntN.{ℤ}
use lib.ListN.{length, take, drop}
use Rattle.number.specs.BigEndian.{Bytes}
use Rattle.number.specs.TwosComplement.{Signed}
use Rattle.method.specs.declared.Method.{Method}
use Rattle.method.specs.declared.Method.TheVariants.{Readdir, Getcreds}
use Rattle.method.specs.Methods.{Found, found, unknown as no-method, reply_number, of_reply}
use Rattle.method.proofs.Table.{reply-passes}
use Rattle.layout.specs.Table.{row, reply, unknown_response, Plan, unexpected, header, asked, plain, led, plan_of, reply_plan, plan}
use Rattle.layout.specs.Values.{Part, Value, signed, run, runs, bytes_in, contents, AllFit, none, more, fits-num, fits-i32, fits-string, fits-strings}
use Rattle.layout.specs.Reading.{Shape, unknown, known, failure, success, Answer, accepted, read}
use Rattle.layout.specs.Names.{first_name, names_at}
use Rattle.layout.specs.Pieces.{kinds_of}
use Rattle.layout.specs.Normal.{no_bool}
use Rattle.layout.specs.Writing.{has_shape, length_of, write, split, sum, write_names}
use Rattle.layout.proofs.Tests.{apart}
use Rattle.layout.proofs.Iterating.{length-names_at}
use Rattle.layout.proofs.ReadFits.{accepted-fits}
use Rattle.layout.proofs.Written.{write-finished}
use Rattle.wire.specs.Runs.{shown}
use Rattle.wire.specs.Values.{shown_in}
use Rattle.wire.proofs.ShownInside.{accepted-shown}
use Rattle.message_writer.specs.declared.Written.{Written}
use Rattle.message_writer.specs.declared.Written.TheVariants.{Stored}
use Rattle.message_writer.specs.Writers.{told_of, Wrote}
use Rattle.message_writer.proofs.Finished.{length-inside}
use Rattle.reply_reader.specs.declared.Reply.{Reply}
use Rattle.reply_reader.specs.declared.Reply.TheVariants as R
use Rattle.reply_reader.specs.declared.ReplyAnswer.{ReplyAnswer}
use Rattle.reply_reader.specs.declared.ReplyAnswer.TheVariants as A
use Rattle.reply_reader.specs.Answers.{method_of, type_of, values_of, answer_of}
use Rattle.reply_writer.specs.Replying.{replying}
use Rattle.readdir_writer.proofs.CollectedParts.{read_names}
use Rattle.reply_rewriter.specs.Rewriting.{name_texts, written_in, values_in, rewriting, rewriting_names}
use Rattle.round_trip.specs.RoundTrip.{again, ReadAs, Rewritten, Back}
use Rattle.round_trip.proofs.Trips.{small-reply, accepted-again, rewritten-same, written_back}

-- ---- what is written of the values that were read is what they show

names-shown : (m : List ℕ) (n : ℕ) {i k : ℕ} {z : ℤ} → read reply m ≡ accepted success i (reply_number Readdir) (signed z ∷ runs (names_at n m first_name) ∷ []) k
    → name_texts m n ≡ map (shown m) (names_at n m first_name)
names-shown m n a =
    let both = accepted-shown reply m a in
    let s : map (shown m) (names_at n m first_name) ≡ map (bytes_in m) (names_at n m first_name) = cc in
    ap (map (bytes_in m)) (read_names m n a) ∙ sym s

written-shown : (m : List ℕ) (q : Reply) {i k : ℕ} {z : ℤ} → read reply m ≡ accepted success i (type_of q) (signed z ∷ values_of m q) k
    → map (written_in m) (values_of m q) ≡ map (shown_in m) (values_of m q)
written-shown m R.Access a = refl
written-shown m (R.Getattr attributes) a = refl
written-shown m (R.Readlink resolved) a = refl
written-shown m R.Symlink a = refl
written-shown m R.Link a = refl
written-shown m R.Rename a = refl
written-shown m R.Chmod a = refl
written-shown m R.Chown a = refl
written-shown m R.Truncate a = refl
written-shown m R.Fsync a = refl
written-shown m (R.Open handle) a = refl
written-shown m R.Mknod a = refl
written-shown m (R.Create handle) a = refl
written-shown m R.Release a = refl
written-shown m R.Unlink a = refl
written-shown m (R.Read content) a = refl
written-shown m R.Write a = refl
written-shown m R.Mkdir a = refl
written-shown m (R.Readdir count) a = rw (length-names_at count m first_name, names-shown m count a)
written-shown m R.Rmdir a = refl
written-shown m (R.Statfs statistics) a = refl
written-shown m R.Utimens a = refl

-- ---- no reply has a bool

-- one test over the table
abbrev bool_free : Method → Bool
bool_free m = no_bool (kinds_of (plan_of (row m).reply) success)

failure-free : (p : Plan) (s : Shape) → no_bool (kinds_of p success) ≡ true → no_bool (kinds_of p s) ≡ true
failure-free unexpected s h = refl
failure-free header s h = refl
failure-free (asked ks) s h = h
failure-free (plain ks) s h = h
failure-free (led c ks) unknown h = refl
failure-free (led c ks) known h = refl
failure-free (led c ks) failure h = refl
failure-free (led c ks) success h = h

pub no_bool_lem : (t : ℕ) (s : Shape) → no_bool (kinds_of (plan reply t) s) ≡ true
unfolding plan
no_bool_lem t s = failure-free (plan reply t) s (go (eqb t unknown_response) (of_reply t) refl)
  where
    go : (b : Bool) (f : Found) → of_reply t ≡ f → no_bool (kinds_of (cond b header (reply_plan f)) success) ≡ true
    go true f e = refl
    go false no-method e = refl
    go false (found m) e = reply-passes bool_free refl t e

-- ---- read, and written again

-- a success of a method with a result
pub success-again : (m out : List ℕ) {after : List ℕ} {r : Written} (i : ℕ) (z : ℤ) (q : Reply) (k : ℕ) → Bytes m
    → read reply m ≡ accepted success i (type_of q) (signed z ∷ values_of m q) k → Wrote (rewriting q i z m out) after r → Wrote (again reply m out) after r
success-again m out i z q k by a w = accepted-again reply m out success i (type_of q) k (signed z ∷ values_of m q) by a (rw (written-shown m q a) at w)

-- a reply of any shape, where it has room: the bytes as they were
pub reply-again : (m : List ℕ) (s : Shape) (i t k : ℕ) (vs : List (Value Part)) (a : ReplyAnswer) (out : List ℕ) {after : List ℕ} {r : Written} → Bytes m
    → answer_of m a ≡ read reply m → answer_of m a ≡ accepted s i t vs k → k ≤ length out
    → Wrote (write reply s i t (map (shown_in m) vs) true out) after r → Rewritten (take k m) out k after r
reply-again m s i t k vs a out by reads is room w =
    let e : read reply m ≡ accepted s i t vs k = sym reads ∙ is in
    rewritten-same reply m out e room (no_bool_lem t s) (accepted-again reply m out s i t k vs by e w)

module _ (m : List ℕ) (i : ℕ) (z : ℤ) (k : ℕ) (out : List ℕ) {after : List ℕ} {r : Written} (by : Bytes m) where
  -- a success of any method but getcreds, by `reply_rewriter::write_reply`
  pub reply-same : (q : Reply) → answer_of m (A.Success i z q k) ≡ read reply m → k ≤ length out → Wrote (rewriting q i z m out) after r
      → Rewritten (take k m) out k after r
  reply-same q a room w = rewritten-same reply m out (sym a) room (no_bool_lem (type_of q) success) (success-again m out i z q k by (sym a) w)

  -- a success of readdir, by `reply_rewriter::write_readdir`
  pub readdir-same : (count : ℕ) → answer_of m (A.Success i z (R.Readdir count) k) ≡ read reply m → k ≤ length out
      → Wrote (rewriting_names count i z m out) after r → Rewritten (take k m) out k after r
  readdir-same count a room w = reply-same (R.Readdir count) a room (rw (length-names_at count m first_name) w)

-- ---- written, and read back

-- names that were stored lie inside the buffer
pub names-inside : (i : ℕ) (z : ℤ) (ns s out : List ℕ) {after : List ℕ} (r : Written) → Wrote (write_names i z ns s out) after r
    → length_of (told_of r) ≤ length after
unfolding write_names
names-inside i z ns s out r w = length-inside _ _ _ _ _ _ _ r w

module _ (out : List ℕ) {after : List ℕ} {r : Written} {a : Answer} (reads : a ≡ read reply (take (length_of (told_of r)) after)) (i : ℕ) (hi : i < 256 ^ 4) where
  -- a success of a method with a result
  pub success-back : (m : List ℕ) (z : ℤ) (q : Reply) → AllFit (kinds_of (plan reply (type_of q)) success) (values_in m z q)
      → Wrote (rewriting q i z m out) after r → Back reply success i (type_of q) (values_in m z q) true out after r a
  success-back m z q fit w = written_back reply success i (type_of q) (values_in m z q) true out hi (small-reply (method_of q)) fit w reads

  -- names given as one run and a list of lengths
  pub names-back : (z : ℤ) (ns s : List ℕ) → Signed 4 z → Wrote (write_names i z ns s out) after r
      → Back reply success i (reply_number Readdir) (signed z ∷ runs (split ns s) ∷ []) (eqb (sum ns) (length s)) out after r a
  unfolding plan of_reply write_names
  names-back z ns s hz w =
      let fit = more (fits-num (fits-i32 hz)) (more (fits-strings (split ns s)) none) in
      written_back reply success i (reply_number Readdir) (signed z ∷ runs (split ns s) ∷ []) _ out hi (lit< tt) fit w reads

  pub getcreds-back : (s : List ℕ) → Wrote (replying Getcreds i (run s ∷ []) out) after r
      → Back reply success i (reply_number Getcreds) (run s ∷ []) true out after r a
  unfolding plan of_reply
  getcreds-back s w = written_back reply success i (reply_number Getcreds) (run s ∷ []) true out hi (lit< tt) (more (fits-string s) none) w reads

  pub unknown-back : Wrote (write reply unknown i unknown_response [] true out) after r → Back reply unknown i unknown_response [] true out after r a
  unfolding plan
  unknown-back w = written_back reply unknown i unknown_response [] true out hi (lit< tt) none w reads

  -- a failure of a type that has a result: no other is stored
  pub failure-back : (t : ℕ) (z : ℤ) → t < 256 → Signed 4 z → Wrote (write reply failure i t (signed z ∷ []) true out) after r
      → Back reply failure i t (signed z ∷ []) true out after r a
  failure-back t z ht hz w =
      record {
        wrote = w;
        reads = reads;
        is = λ e.
            let shape = (write-finished reply failure i t (signed z ∷ []) true out (sym w.tells ∙ e)).shape in
            (written_back reply failure i t (signed z ∷ []) true out hi ht (result (plan reply t) shape) w reads).is e;
      }
    where
      result : (p : Plan) → has_shape p failure ≡ true → AllFit (kinds_of p failure) (signed z ∷ [])
      result (led c ks) h = more (fits-num (fits-i32 hz)) none
      result header h = apart h
      result unexpected h = apart h
      result (asked ks) h = apart h
      result (plain ks) h = apart h

-- ---- read, written again with any id, and read back: the same reply

pub reply-forwarded : (m : List ℕ) (i j : ℕ) (z : ℤ) (q : Reply) (k : ℕ) (a : ReplyAnswer) (out : List ℕ) {after : List ℕ} {n : ℕ} → Bytes m
    → answer_of m (A.Success i z q k) ≡ read reply m → j < 256 ^ 4 → Wrote (rewriting q j z m out) after (Stored n)
    → answer_of (take n after) a ≡ read reply (take n after)
    → ReadAs (take n after) success j (type_of q) (contents m (signed z ∷ values_of m q)) n (answer_of (take n after) a)
reply-forwarded m i j z q k a out by first hj w second =
    let said : map (written_in m) (values_of m q) ≡ contents m (values_of m q) =
    written-shown m q (sym first) ∙ ap (drop 1) (accepted-shown reply m (sym first)) in
    let fit = accepted-fits reply m by (sym first) in
    (written_back reply success j (type_of q) (contents m (signed z ∷ values_of m q)) true out hj (small-reply (method_of q)) fit (rw said at w) second).is refl
