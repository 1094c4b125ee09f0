-- Requests through reader and writer, by the promises of the functions. Assumes nothing.
use Prim.Native.Nat.{ℕ, ◌≤◌, ◌<◌, ◌^◌}
use mathlib.Core.Path.{◌≡◌, refl, sym, subst, ◌∙◌}
use mathlib.Core.Bool.{true}
use mathlib.Core.List.{List, []}
use lib.ListN.{length, take}
use Rattle.number.specs.BigEndian.{Bytes}
use Rattle.method.specs.declared.Method.{Method}
use Rattle.method.specs.Methods.{request_number}
use Rattle.method.proofs.Table.{request-found}
use Rattle.layout.specs.Kinds.{kinds}
use Rattle.layout.specs.Table.{row, request, Plan, unexpected, header, asked, plain, led, plan}
use Rattle.layout.specs.Values.{Part, Value, contents, AllFit, none}
use Rattle.layout.specs.Reading.{known, unknown, Answer, read}
use Rattle.layout.specs.Pieces.{kinds_of}
use Rattle.layout.specs.Normal.{no_bool}
use Rattle.layout.specs.Writing.{has_shape, length_of, write}
use Rattle.layout.proofs.Tests.{apart}
use Rattle.layout.proofs.Trace.{BodyHere, header-only, message-traced}
use Rattle.layout.proofs.ReadFits.{accepted-fits}
use Rattle.layout.proofs.Written.{write-finished}
use Rattle.wire.proofs.ShownInside.{accepted-shown}
use Rattle.message_writer.specs.declared.Written.{Written}
use Rattle.message_writer.specs.declared.Written.TheVariants.{Stored}
use Rattle.message_writer.specs.Writers.{told_of, Wrote}
use Rattle.request_reader.specs.declared.Request.{Request}
use Rattle.request_reader.specs.declared.RequestAnswer.{RequestAnswer}
use Rattle.request_reader.specs.declared.RequestAnswer.TheVariants as A
use Rattle.request_reader.specs.Answers.{method_of, type_of, values_of, answer_of}
use Rattle.request_writer.specs.Asking.{asking}
use Rattle.request_rewriter.specs.Rewriting.{rewriting}
use Rattle.round_trip.specs.RoundTrip.{again, ReadAs, Rewritten, Back}
use Rattle.round_trip.proofs.Trips.{small-request, accepted-again, rewritten-same, written_back}

-- ---- read, and written again

-- a request of a method, by `write_request`
pub request-again : (m : List ℕ) (i : ℕ) (q : Request) (k : ℕ) (out : List ℕ) {after : List ℕ} {r : Written} → Bytes m
    → answer_of (A.Known i q k) ≡ read request m → Wrote (rewriting q i m out) after r → Wrote (again request m out) after r
request-again m i q k out by a w = accepted-again request m out known i (type_of q) k (values_of q) by (sym a) w

-- a request of every method but fsync, which alone has a bool: the bytes as they were
pub request-same : (m : List ℕ) (i : ℕ) (q : Request) (k : ℕ) (out : List ℕ) {after : List ℕ} {r : Written} → Bytes m
    → answer_of (A.Known i q k) ≡ read request m → k ≤ length out → Wrote (rewriting q i m out) after r
    → no_bool (kinds (row (method_of q)).request) ≡ true → Rewritten (take k m) out k after r
unfolding plan
request-same m i q k out by a room w b =
    rewritten-same request m out (sym a) room (rw (request-found (method_of q)) b) (request-again m i q k out by a w)

unknown-bare : {m : List ℕ} {pl : Plan} {p q : ℕ} {vs : List (Value Part)} → BodyHere m pl p unknown vs q → no_bool (kinds_of pl unknown) ≡ true
unknown-bare header-only = refl

-- one of a type that is no method's
pub unknown-again : (m : List ℕ) (i t k : ℕ) (out : List ℕ) {after : List ℕ} {r : Written} → Bytes m
    → answer_of (A.Unknown i t k) ≡ read request m → k ≤ length out → Wrote (write request unknown i t [] true out) after r
    → Rewritten (take k m) out k after r
unknown-again m i t k out by a room w =
    rewritten-same request m out (sym a) room (unknown-bare (message-traced (sym a)).rest) (accepted-again request m out unknown i t k [] by (sym a) w)

-- ---- written, and read back

module _ (out : List ℕ) {after : List ℕ} {r : Written} {a : Answer} (reads : a ≡ read request (take (length_of (told_of r)) after)) where
  -- a request of a method
  pub request-back : (q : Method) (i : ℕ) (vs : List (Value (List ℕ))) → i < 256 ^ 4 → AllFit (kinds (row q).request) vs
      → Wrote (asking q i vs out) after r → Back request known i (request_number q) vs true out after r a
  unfolding plan
  request-back q i vs hi fit w = written_back request known i (request_number q) vs true out hi (small-request q) (rw (request-found q) fit) w reads

  -- one of a type that is no method's
  pub unknown-back : (i t : ℕ) → i < 256 ^ 4 → t < 256 → Wrote (write request unknown i t [] true out) after r → Back request unknown i t [] true out after r a
  unknown-back i t hi ht w =
      record {
        wrote = w;
        reads = reads;
        is = λ e.
            let shape = (write-finished request unknown i t [] true out (sym w.tells ∙ e)).shape in
            (written_back request unknown i t [] true out hi ht (no_fields (plan request t) shape) w reads).is e;
      }
    where
      no_fields : (p : Plan) → has_shape p unknown ≡ true → AllFit (kinds_of p unknown) []
      no_fields header h = none
      no_fields unexpected h = apart h
      no_fields (asked ks) h = apart h
      no_fields (plain ks) h = apart h
      no_fields (led c ks) h = apart h

-- ---- read, written again with any id, and read back: the same request

pub request-forwarded : (m : List ℕ) (i j : ℕ) (q : Request) (k : ℕ) (a : RequestAnswer) (out : List ℕ) {after : List ℕ} {n : ℕ} → Bytes m
    → answer_of (A.Known i q k) ≡ read request m → j < 256 ^ 4 → Wrote (rewriting q j m out) after (Stored n)
    → answer_of a ≡ read request (take n after) → ReadAs (take n after) known j (type_of q) (contents m (values_of q)) n (answer_of a)
request-forwarded m i j q k a out {after} {n} by first hj w second =
    let said : Wrote (asking (method_of q) j (contents m (values_of q)) out) after (Stored n) =
    subst (λ (vs : List (Value (List ℕ))). Wrote (asking (method_of q) j vs out) after (Stored n)) (accepted-shown request m (sym first)) w in
    let fit = accepted-fits request m by (sym first) in
    (written_back request known j (type_of q) (contents m (values_of q)) true out hj (small-request (method_of q)) fit said second).is refl
