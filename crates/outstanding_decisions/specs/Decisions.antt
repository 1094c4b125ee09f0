-- What the answers of this crate stand for, and how a decision on a copy speaks of the table that was copied.
use Rattle.std.specs.Prelude.{ℕ, ◌≡◌, List, length}
use Rattle.std.proofs.Math.Option.{Option, none, some}
use Rattle.outstanding_records.specs.declared.Request.{Request}
use Rattle.outstanding_records.specs.declared.Record.{Record}
use Rattle.outstanding_records.specs.declared.Record.TheVariants.{Free, Held}
use Rattle.reply_reader.specs.declared.ReplyAnswer.{ReplyAnswer}
use Rattle.reply_reader.specs.declared.ReplyAnswer.TheVariants as reply
use Rattle.reply_reader.specs.Answers.{answer_of}
use Rattle.outstanding.specs.Records.{is_free, holds_id, first}
use Rattle.outstanding.specs.Calls.{Change, kept, entered, removed, CallOutcome, Told, done, refused, Arrival, answered, refused-reply, Looked as Shown, seen, not_seen}
use Rattle.outstanding_decisions.specs.declared.Entered.{Entered}
use Rattle.outstanding_decisions.specs.declared.Entered.TheVariants as E
use Rattle.outstanding_decisions.specs.declared.Arrived.{Arrived}
use Rattle.outstanding_decisions.specs.declared.Arrived.TheVariants as A
use Rattle.outstanding_decisions.specs.declared.Found.{Found}
use Rattle.outstanding_decisions.specs.declared.Found.TheVariants as F
use Rattle.outstanding_decisions.specs.declared.Looked.{Looked}
use Rattle.outstanding_decisions.specs.declared.Looked.TheVariants as L
use Rattle.outstanding_decisions.specs.declared.Entry.{Entry}
use Rattle.outstanding_decisions.specs.declared.Removal.{Removal}
use Rattle.outstanding_decisions.specs.declared.Reading.{Reading}
use Rattle.outstanding_decisions.specs.declared.Reading.TheVariants as R

-- ---- document 02's answer for every case

abbrev pub told_of : Entered → Told
told_of E.Done = done
told_of (E.Refused n p) = refused n p

abbrev pub arrival_of : List ℕ → Arrived → Arrival
arrival_of m (A.Answered a) = answered (answer_of m a)
arrival_of m (A.Refused n p) = refused-reply n p

abbrev pub found_of : Found → Option Request
found_of F.NotOutstanding = none
found_of (F.Outstanding q) = some q

abbrev pub looked_of : Looked → Shown
looked_of (L.Seen n f) = seen n (found_of f)
looked_of (L.Refused n p) = not_seen n p

-- ---- a change as a store: the place of the one record that changes, past the end where none does, and the record that it becomes

abbrev pub place : Change → List Record → ℕ
place kept l = length l
place (entered i q) l = first is_free l
place (removed i) l = first (holds_id i) l

abbrev pub stored : Change → Record
stored kept = Free
stored (entered i q) = Held i q
stored (removed i) = Free

-- the answer a, and the record r stored at a place, are what the outcome o of a call on the records l says
pub record Decided {A : Type 0} (l : List Record) (a : A) (at : ℕ) (r : Record) (o : CallOutcome A) : Type 0 where
  pub tells : a ≡ o.told
  pub stands : at ≡ place o.change l
  pub stores : r ≡ stored o.change

-- an entry that was decided on the records l, and a removal for the message m
abbrev pub EntryDecided : List Record → Entry → CallOutcome Told → Type 0
EntryDecided l e o = Decided l (told_of e.answer) e.at e.record o

abbrev pub RemovalDecided : List Record → List ℕ → Removal → CallOutcome Arrival → Type 0
RemovalDecided l m c o = Decided l (arrival_of m c.answer) c.at Free o

-- what a record says of a request
abbrev pub request_in : Record → Option Request
request_in Free = none
request_in (Held i q) = some q

-- whether a reply was accepted, with its id, or refused
abbrev pub reading_of : ReplyAnswer → Reading
reading_of (reply.Success i r q k) = R.Accepted i
reading_of (reply.Failure i t r k) = R.Accepted i
reading_of (reply.Credentials i x k) = R.Accepted i
reading_of (reply.UnknownResponse i k) = R.Accepted i
reading_of (reply.Refused n p) = R.Refused n p
