-- Reading and writing against each other.
use Rattle.std.specs.Prelude.{ℕ, ◌≡◌, Bool, true, List, [], ◌∷◌, ◌++◌, eqb, leb, ℤ, length, take, drop}
use Rattle.std.specs.Borrow.{MutBor}
use Rattle.method.specs.declared.Method.TheVariants.{Readdir, Getcreds}
use Rattle.method.specs.Methods.{reply_number}
use Rattle.layout.specs.Refusals.{buffer_too_small}
use Rattle.layout.specs.Table.{Side, request, reply}
use Rattle.layout.specs.Values.{Part, Value, signed, runs, contents}
use Rattle.layout.specs.Reading.{Shape, success, Answer, accepted, refused as not-read, read}
use Rattle.layout.specs.Normal.{normalised}
use Rattle.layout.specs.Writing.{stored, refused, length_of, WriteOutcome, check, write, split, sum}
use Rattle.message_writer.specs.declared.Written.{Written}
use Rattle.message_writer.specs.declared.Written.TheVariants.{Stored}
use Rattle.message_writer.specs.Writers.{told_of, Wrote}
use Rattle.request_reader.specs.Answers.{answer_of as request_answer}
use Rattle.reply_reader.specs.Answers.{answer_of as reply_answer}
use Rattle.round_trip.specs.declared.RequestBack.{RequestBack}
use Rattle.round_trip.specs.declared.ReplyBack.{ReplyBack}

-- what writing again comes to for the message m that was answered so: its known part in front of what stays of the buffer, in which an
-- is_datasync byte above 1 has become 1; where it has no room, or m was refused, the refusal and the buffer as it was
abbrev pub again_by : Side → List ℕ → List ℕ → Answer → WriteOutcome
again_by side m out (accepted s i t vs k) =
    check buffer_too_small (leb k (length out)) out (record { told = stored k; buffer = normalised side s t vs m ++ drop k out })
again_by side m out (not-read n p) = record { told = refused n p; buffer = out }

abbrev pub again : Side → List ℕ → List ℕ → WriteOutcome
again side m out = again_by side m out (read side m)

-- the message l is answered as one of this shape with the id i, the type t and n known bytes, and its values say vs
pub record ReadAs (l : List ℕ) (s : Shape) (i t : ℕ) (vs : List (Value (List ℕ))) (n : ℕ) (a : Answer) : Type 0 where
  pub values : List (Value Part)
  pub is : a ≡ accepted s i t values n
  pub says : contents l values ≡ vs

-- the first n bytes of l are read so, and all of them are known
abbrev pub Accepted : Side → List ℕ → Shape → ℕ → ℕ → List (Value (List ℕ)) → ℕ → Type 0
Accepted side l s i t vs n = ReadAs (take n l) s i t vs n (read side (take n l))

-- k bytes were stored, and e stands in front of what stays of the buffer out
pub record Rewritten (e out : List ℕ) (k : ℕ) (after : List ℕ) (r : Written) : Type 0 where
  pub tells : r ≡ Stored k
  pub leaves : after ≡ e ++ drop k out

-- these values were written into out, which became after: r was told, what was stored was answered a, and it says these values
pub record Back (side : Side) (s : Shape) (i t : ℕ) (vs : List (Value (List ℕ))) (summed : Bool) (out after : List ℕ) (r : Written) (a : Answer) : Type 0 where
  pub wrote : Wrote (write side s i t vs summed out) after r
  pub reads : a ≡ read side (take (length_of (told_of r)) after)
  pub is : {n : ℕ} → told_of r ≡ stored n → ReadAs (take n after) s i t vs n a

-- the same of a request, and of a lent buffer, before and afterwards
abbrev pub RequestReturns : Shape → ℕ → ℕ → List (Value (List ℕ)) → MutBor (List ℕ) → MutBor (List ℕ) → RequestBack → Type 0
RequestReturns s i t vs before after r = Back request s i t vs true before.now after.now r.written (request_answer r.answer)

-- the answer to a reply, its names found in the bytes that were stored
abbrev pub answer_stored : List ℕ → ReplyBack → Answer
answer_stored after r = reply_answer (take (length_of (told_of r.written)) after) r.answer

-- the same of a reply
abbrev pub ReplyReturns : Shape → ℕ → ℕ → List (Value (List ℕ)) → MutBor (List ℕ) → MutBor (List ℕ) → ReplyBack → Type 0
ReplyReturns s i t vs before after r = Back reply s i t vs true before.now after.now r.written (answer_stored after.now r)

-- the success of readdir, its names given as the lengths ns and the run s
abbrev pub NamesReturn : ℕ → ℤ → List ℕ → List ℕ → MutBor (List ℕ) → MutBor (List ℕ) → ReplyBack → Type 0
NamesReturn i z ns s before after r =
    Back reply success i (reply_number Readdir) (signed z ∷ runs (split ns s) ∷ []) (eqb (sum ns) (length s)) before.now after.now
    r.written (answer_stored after.now r)

-- the type of the reply without a result
abbrev pub getcreds_reply : ℕ
getcreds_reply = reply_number Getcreds
