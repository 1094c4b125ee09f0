-- `round_trip::reply_again` meets its contract: in each arm the answer is of a known variant. Assumes nothing.
use Prim.Native.Nat.{ℕ}
use mathlib.Core.Path.{sym, ap, ◌∙◌}
use mir.Syntax.{w32}
use mir.ValLaws.{to_z-of_z}
use borrow.Author.Rules.{rules}
use Rattle.layout.specs.Table.{reply}
use Rattle.reply_reader.specs.Answers.{answer_of}
use Rattle.round_trip.proofs.Trips.{accepted-again, refused-again}
use Rattle.round_trip.proofs.Replies.{success-again}
use Rattle.round_trip.proofs.reply_again.Goals as goal

pub returns-in-Success : goal.returns-in-Success
returns-in-Success c =
    let arm = c in
    let reading = arm in
    let start = reading in
    success-again start.args.message.now start.args.out.now arm.in-Success.id arm.in-Success.result arm.in-Success.reply arm.in-Success.known
    (λ (j : ℕ). (reading.type_inv.message j).fits) (sym reading.read_reply-answer.ensures ∙ ap (answer_of start.args.message.now) arm.in-Success.is)
    (rw (to_z-of_z w32 arm.in-Success.result (search rules)) at c.write_reply.ensures)

pub returns-in-Failure : goal.returns-in-Failure
returns-in-Failure c =
    let arm = c in
    let reading = arm in
    let start = reading in
    accepted-again reply start.args.message.now start.args.out.now _ _ _ _ _ (λ (j : ℕ). (reading.type_inv.message j).fits) (sym reading.read_reply-answer.ensures ∙ ap (answer_of start.args.message.now) arm.in-Failure.is)
    (rw (to_z-of_z w32 arm.in-Failure.result (search rules)) at c.write_failure.ensures)

pub returns-in-Credentials : goal.returns-in-Credentials
returns-in-Credentials c =
    let arm = c in
    let reading = arm in
    let start = reading in
    accepted-again reply start.args.message.now start.args.out.now _ _ _ _ _ (λ (j : ℕ). (reading.type_inv.message j).fits) (sym reading.read_reply-answer.ensures ∙ ap (answer_of start.args.message.now) arm.in-Credentials.is)
    (rw c.bytes_of.ensures.bytes at c.write_getcreds.ensures)

pub returns-in-UnknownResponse : goal.returns-in-UnknownResponse
returns-in-UnknownResponse c =
    let arm = c in
    let reading = arm in
    let start = reading in
    accepted-again reply start.args.message.now start.args.out.now _ _ _ _ _ (λ (j : ℕ). (reading.type_inv.message j).fits) (sym reading.read_reply-answer.ensures ∙ ap (answer_of start.args.message.now) arm.in-UnknownResponse.is)
    c.write_unknown_response.ensures

pub returns-in-Refused : goal.returns-in-Refused
returns-in-Refused c =
    let reading = c in
    let start = reading in
    refused-again reply start.args.message.now start.args.out.now _ _ (sym reading.read_reply-answer.ensures ∙ ap (answer_of start.args.message.now) c.in-Refused.is)
