-- What a host is shown of a call on the table of outstanding requests, in numbers.
use Rattle.std.specs.Prelude.{ℕ, List}
use Rattle.std.proofs.Math.Option.{none, some}
use Rattle.layout.specs.Table.{reply}
use Rattle.layout.specs.Reading.{Answer, refused as refused_answer, read}
use Rattle.outstanding.specs.Calls.{CallOutcome, Told, done, refused, Arrival, answered, refused-reply, arrive, Looked, seen, not_seen}
use Rattle.outstanding_records.specs.Words.{records}
use Rattle.exports_outstanding.specs.declared.TushaletsLooked.{TushaletsLooked}

-- what the arrival of the reply m comes to in the table of the words ws
abbrev pub arriving : List ℕ → List ℕ → CallOutcome Arrival
arriving ws m = arrive (records ws) (read reply m)

-- 0, or the number of a refusal; its place is 0
abbrev pub number_of : Told → ℕ
number_of done = 0
number_of (refused n p) = n

-- the reader's answer, or a refusal in its form
abbrev pub shown_of : Arrival → Answer
shown_of (answered a) = a
shown_of (refused-reply n p) = refused_answer n p

abbrev pub looking : ℕ → ℕ → ℕ → TushaletsLooked
looking h t n = record { number = 0; held = h; type_number = t; count = n }

abbrev pub looked_of : Looked → TushaletsLooked
looked_of (seen n none) = looking 0 0 n
looked_of (seen n (some q)) = looking 1 q.type_number n
looked_of (not_seen n p) = record { number = n; held = 0; type_number = 0; count = 0 }
