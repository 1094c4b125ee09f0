-- What writing a request as the reader gives it comes to.
use Rattle.std.specs.Prelude.{ℕ, List, map}
use Rattle.layout.specs.Values.{Value}
use Rattle.layout.specs.Writing.{WriteOutcome}
use Rattle.wire.specs.Values.{shown_in}
use Rattle.request_reader.specs.declared.Request.{Request}
use Rattle.request_reader.specs.Answers.{method_of, values_of}
use Rattle.request_writer.specs.Asking.{asking}

-- the values that are written of the request q, its texts and data being those of s: one that does not lie inside s is empty
abbrev pub values_in : List ℕ → Request → List (Value (List ℕ))
values_in s q = map (shown_in s) (values_of q)

-- they, written with the id i into a buffer
abbrev pub rewriting : Request → ℕ → List ℕ → List ℕ → WriteOutcome
rewriting q i s out = asking (method_of q) i (values_in s q) out
