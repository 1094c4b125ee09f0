-- `outstanding_decisions::insert` meets its contract. Assumes nothing.
use mathlib.Core.Path.{refl, sym, ◌∙◌, ap}
use Rattle.std.specs.Option.{is_some}
use Rattle.outstanding.specs.Records.{is_free, holds_id}
use Rattle.outstanding.proofs.Cases.{insert-reply-type, insert-outstanding, insert-full, insert-done}
use Rattle.outstanding.proofs.Lists.{some-any, found-at, none-found}
use Rattle.outstanding_records.specs.Words.{records}
use Rattle.outstanding_decisions.proofs.Deciding.{stops-in}
use Rattle.outstanding_decisions.proofs.insert.Goals as goal

pub returns-then-type_number-ge-REPLY_OFFSET : goal.returns-then-type_number-ge-REPLY_OFFSET
returns-then-type_number-ge-REPLY_OFFSET c =
    let a = c.args in
    let ws = a.words.now in
    let r = c.refused_entry.ensures in
    stops-in ws r.0 r.1 r.2 (insert-reply-type (records ws) a.id a.type_number c.if-type_number-ge-REPLY_OFFSET.true)

pub returns-then-is_some : goal.returns-then-is_some
returns-then-is_some c =
    let a = c.args in
    let ws = a.words.now in
    let r = c.refused_entry-then-is_some.ensures in
    let held = sym (some-any (holds_id a.id) (records ws)) ∙ ap is_some (sym c.find_id.ensures) ∙ sym c.is_some.ensures ∙ c.if-is_some.true in
    stops-in ws r.0 r.1 r.2 (insert-outstanding (records ws) a.id a.type_number c.if-type_number-ge-REPLY_OFFSET.false held)

pub returns-in_default : goal.returns-in_default
returns-in_default c =
    let a = c.args in
    let ws = a.words.now in
    let r = c.refused_entry-in_default.ensures in
    let new = sym (some-any (holds_id a.id) (records ws)) ∙ ap is_some (sym c.find_id.ensures) ∙ sym c.is_some.ensures ∙ c.if-is_some.false in
    let full = none-found is_free (records ws) (sym c.find_free.ensures ∙ c.in_default.is) in
    stops-in ws r.0 r.1 r.2 (insert-full (records ws) a.id a.type_number c.if-type_number-ge-REPLY_OFFSET.false new full)

pub returns : goal.returns
returns c =
    let a = c.args in
    let ws = a.words.now in
    let new = sym (some-any (holds_id a.id) (records ws)) ∙ ap is_some (sym c.find_id.ensures) ∙ sym c.is_some.ensures ∙ c.if-is_some.false in
    let free = found-at is_free (records ws) (sym c.find_free.ensures ∙ c.in-Some.is) in
    rw (insert-done (records ws) a.id a.type_number c.if-type_number-ge-REPLY_OFFSET.false new free.1) (record { tells = refl; stands = free.0; stores = refl })
