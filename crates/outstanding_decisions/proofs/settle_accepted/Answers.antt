-- `outstanding_decisions::settle_accepted` meets its contract. Assumes nothing.
use mathlib.Core.Path.{refl, sym, ◌∙◌, ap}
use Rattle.reply_reader.specs.Answers.{answer_of}
use Rattle.outstanding.specs.Records.{holds_id}
use Rattle.outstanding.specs.Calls.{answers}
use Rattle.outstanding.proofs.Cases.{settle-not-outstanding, settle-mismatch, settle-answered}
use Rattle.outstanding.proofs.Lists.{found-at, none-found}
use Rattle.outstanding_records.specs.Words.{records}
use Rattle.outstanding_decisions.specs.Decisions.{arrival_of, request_in}
use Rattle.outstanding_decisions.proofs.Deciding.{stops-in, lookup-at}
use Rattle.outstanding_decisions.proofs.settle_accepted.Goals as goal

pub returns-in_default : goal.returns-in_default
returns-in_default c m =
    let a = c.args in
    let ws = a.words.now in
    let r = c.refused_removal.ensures in
    let absent = none-found (holds_id a.id) (records ws) (sym c.find_id.ensures ∙ c.in_default.is) in
    stops-in ws (ap (arrival_of m) r.1) r.0 refl (settle-not-outstanding (records ws) a.id a.type_number (answer_of m a.answer) absent)

pub returns-then-not-answers : goal.returns-then-not-answers
returns-then-not-answers c m =
    let a = c.args in
    let ws = a.words.now in
    let r = c.refused_removal-then-not-answers.ensures in
    let stands = sym c.find_id.ensures ∙ c.in-Some.is in
    let other = ap (answers a.type_number) (lookup-at ws a.id stands ∙ ap request_in (sym c.from.ensures)) ∙ sym c.answers.ensures ∙ c.if-not-answers.true in
    stops-in ws (ap (arrival_of m) r.1) r.0 refl (settle-mismatch (records ws) a.id a.type_number (answer_of m a.answer) (found-at (holds_id a.id) (records ws) stands).1 other)

pub returns : goal.returns
returns c m =
    let a = c.args in
    let ws = a.words.now in
    let stands = sym c.find_id.ensures ∙ c.in-Some.is in
    let found = found-at (holds_id a.id) (records ws) stands in
    let fits = ap (answers a.type_number) (lookup-at ws a.id stands ∙ ap request_in (sym c.from.ensures)) ∙ sym c.answers.ensures ∙ c.if-not-answers.false in
    rw (settle-answered (records ws) a.id a.type_number (answer_of m a.answer) found.1 fits) (record { tells = refl; stands = found.0; stores = refl })
