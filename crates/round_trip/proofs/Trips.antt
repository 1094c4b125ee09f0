-- Readers and writers against each other, by their promises, for both sides and every shape. Assumes nothing.
use Prim.Native.Nat.{ℕ, suc, ◌≤◌, ◌<◌, ◌^◌}
use mathlib.Core.Path.{◌≡◌, refl, sym, ap, subst, ◌∙◌}
use mathlib.Core.Bool.{Bool, true}
use mathlib.Core.List.{List, ◌++◌, map}
use lib.Dec.{leb}
use lib.ListN.{length, take, drop}
use lib.Seq.{take_at}
use borrow.Author.Tests.{le-leb, leb-true}
use Rattle.number.specs.BigEndian.{Bytes}
use Rattle.method.specs.declared.Method.{Method}
use Rattle.method.specs.Methods.{request_number, reply_number}
use Rattle.method.proofs.Table.{request-found, request-passes}
use Rattle.layout.specs.Table.{Side, plan}
use Rattle.layout.specs.Values.{Part, Value, AllFit}
use Rattle.layout.specs.Reading.{Shape, Answer, accepted, refused as not-read, read}
use Rattle.layout.specs.Pieces.{kinds_of}
use Rattle.layout.specs.Normal.{no_bool, normalised}
use Rattle.layout.specs.Writing.{stored, length_of, encode_message, WriteOutcome, write}
use Rattle.layout.proofs.Trace.{message-traced}
use Rattle.layout.proofs.Written.{ReadsBack, write-finished, written_back as reads-back}
use Rattle.layout.proofs.Rewritten.{written-checked, normalised-same}
use Rattle.wire.specs.Values.{shown_in}
use Rattle.wire.proofs.ShownInside.{accepted-shown}
use Rattle.message_writer.specs.declared.Written.{Written}
use Rattle.message_writer.specs.declared.Written.TheVariants.{Stored, Refused}
use Rattle.message_writer.specs.Writers.{told_of, Wrote}
use Rattle.message_writer.proofs.Finished.{stored-told}
use Rattle.round_trip.specs.RoundTrip.{again_by, again, Accepted, Rewritten, Back}

-- ---- the type numbers of the methods fit into a byte

pub small-request : (m : Method) → request_number m < 256
small-request m =
    leb-true (suc (request_number m)) 256 (request-passes (λ (k : Method). leb (suc (request_number k)) 256) refl (request_number m) (request-found m))

pub small-reply : (m : Method) → reply_number m < 256
small-reply m =
    leb-true (suc (reply_number m)) 256 (request-passes (λ (k : Method). leb (suc (reply_number k)) 256) refl (request_number m) (request-found m))

-- ---- read, and written again

module _ (side : Side) (m out : List ℕ) where
  -- an answer that was accepted, and what it says in the message was written with its id
  pub accepted-again : {after : List ℕ} {r : Written} (s : Shape) (i t k : ℕ) (vs : List (Value Part)) → Bytes m → read side m ≡ accepted s i t vs k
      → Wrote (write side s i t (map (shown_in m) vs) true out) after r → Wrote (again side m out) after r
  accepted-again s i t k vs by e w =
      let same : write side s i t (map (shown_in m) vs) true out ≡ again side m out =
      ap (λ (us : List (Value (List ℕ))). write side s i t us true out) (accepted-shown side m e)
      ∙ written-checked side m e by out
      ∙ ap (again_by side m out) (sym e) in
      record { tells = w.tells ∙ ap (λ (x : WriteOutcome). x.told) same; leaves = w.leaves ∙ ap (λ (x : WriteOutcome). x.buffer) same }

  -- a message that was refused
  pub refused-again : (n p : ℕ) → read side m ≡ not-read n p → Wrote (again side m out) out (Refused n p)
  refused-again n p e =
      let same : again_by side m out (not-read n p) ≡ again side m out = ap (again_by side m out) (sym e) in
      record { tells = ap (λ (x : WriteOutcome). x.told) same; leaves = ap (λ (x : WriteOutcome). x.buffer) same }

  module _ {after : List ℕ} {r : Written} {s : Shape} {i t k : ℕ} {vs : List (Value Part)} (a : read side m ≡ accepted s i t vs k) (room : k ≤ length out) where
    -- where it has room, a message that was accepted is written as its known part: a bool byte above 1 has become 1
    pub rewritten : Wrote (again side m out) after r → Rewritten (normalised side s t vs m) out k after r
    rewritten w =
        let same : again side m out ≡ record { told = stored k; buffer = normalised side s t vs m ++ drop k out } = rw (a, le-leb k (length out) room) in
        record { tells = stored-told r (w.tells ∙ ap (λ (x : WriteOutcome). x.told) same); leaves = w.leaves ∙ ap (λ (x : WriteOutcome). x.buffer) same }

    -- and where it has no bool, byte for byte
    pub rewritten-same : no_bool (kinds_of (plan side t) s) ≡ true → Wrote (again side m out) after r → Rewritten (take k m) out k after r
    rewritten-same b w = subst (λ (e : List ℕ). Rewritten e out k after r) (normalised-same (message-traced a) b) (rewritten w)

-- ---- written, and read back

module _ (side : Side) (s : Shape) (i t : ℕ) (vs : List (Value (List ℕ))) (summed : Bool) (out : List ℕ) where
  -- what a writer finished, the reader accepts with the same values
  pub finished : {after : List ℕ} {n : ℕ} → i < 256 ^ 4 → t < 256 → AllFit (kinds_of (plan side t) s) vs
      → Wrote (write side s i t vs summed out) after (Stored n) → Accepted side after s i t vs n
  finished {after} {n} hi ht fit w =
      let f = (write-finished side s i t vs summed out (sym w.tells)).finished in
      let b : ReadsBack side (take n after) s i t vs = rw w.leaves (reads-back side s i t vs summed out hi ht fit (sym w.tells)) in
      let size : length (take n after) ≡ n =
      ap (λ (l : List ℕ). length (take n l)) (w.leaves ∙ f.buffer)
      ∙ ap length (take_at (encode_message side s i t vs) (drop n out) n (sym f.size))
      ∙ sym f.size in
      record { values = b.values; is = b.reads ∙ ap (λ (k : ℕ). accepted s i t b.values k) size; says = b.says }

  -- what was written, and read from where it was stored
  pub written_back : {after : List ℕ} {r : Written} {a : Answer} → i < 256 ^ 4 → t < 256 → AllFit (kinds_of (plan side t) s) vs
      → Wrote (write side s i t vs summed out) after r → a ≡ read side (take (length_of (told_of r)) after) → Back side s i t vs summed out after r a
  written_back {after} {r} {a} hi ht fit w reads =
      record {
        wrote = w;
        reads = reads;
        is = λ {n} e.
            let b = finished hi ht fit (subst (λ (x : Written). Wrote (write side s i t vs summed out) after x) (stored-told r e) w) in
            record {
              values = b.values;
              is = reads ∙ ap (λ x. read side (take (length_of x) after)) e ∙ b.is;
              says = b.says;
            };
      }
