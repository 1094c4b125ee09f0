-- `round_trip::request_again` meets its contract: in each arm the answer is of a known variant. Assumes nothing.
use mathlib.Core.Path.{sym, ap, ◌∙◌}
use Prim.Native.Nat.{ℕ}
use Rattle.layout.specs.Table.{request}
use Rattle.request_reader.specs.Answers.{answer_of}
use Rattle.round_trip.proofs.Trips.{accepted-again, refused-again}
use Rattle.round_trip.proofs.request_again.Goals as goal

pub returns-in-Known : goal.returns-in-Known
returns-in-Known c =
    let early = c in
    let reading = early in
    accepted-again request reading.args.message.now reading.args.out.now _ _ _ _ _ (λ (j : ℕ). (reading.type_inv.message j).fits) (sym reading.read_request-answer.ensures ∙ ap answer_of c.in-Known.is) c.write_request.ensures

pub returns-in-Unknown : goal.returns-in-Unknown
returns-in-Unknown c =
    let early = c in
    let reading = early in
    accepted-again request reading.args.message.now reading.args.out.now _ _ _ _ _ (λ (j : ℕ). (reading.type_inv.message j).fits) (sym reading.read_request-answer.ensures ∙ ap answer_of c.in-Unknown.is) c.write_unknown.ensures

pub returns-in-Refused : goal.returns-in-Refused
returns-in-Refused c = refused-again request c.args.message.now c.args.out.now _ _ (sym c.read_request-answer.ensures ∙ ap answer_of c.in-Refused.is)
