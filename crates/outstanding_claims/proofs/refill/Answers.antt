-- `outstanding_claims::refill` meets its contract. Assumes nothing.
use mathlib.Core.Path.{sym, ap, ◌∙◌}
use Rattle.layout.specs.Table.{reply}
use Rattle.layout.specs.Reading.{read}
use Rattle.outstanding.specs.Calls.{enter, look}
use Rattle.outstanding_records.specs.Words.{records}
use Rattle.exports.specs.declared.TushaletsReading.{TushaletsReading}
use Rattle.exports_outstanding.specs.Shown.{number_of, looked_of}
use Rattle.outstanding_claims.proofs.Together.{refilled}
use Rattle.outstanding_claims.proofs.refill.Goals as goal

pub returns : goal.returns
returns c answered absent fits =
    let seen = c in
    let one = seen in
    let a = one.args in
    let x = read reply a.message.now in
    let arrived = one.tushalets_arrive-reading.ensures in
    let missing = sym (ap (λ ws. (looked_of (look (records ws) a.id)).held) arrived.records_after) ∙ sym (ap (λ r. r.held) seen.tushalets_look-look.ensures) ∙ absent in
    c.tushalets_enter-entered.ensures.value ∙ ap (λ ws. number_of (enter (records ws) a.id a.type_number).told) arrived.records_after
    ∙ refilled a.records.now x a.id a.type_number (λ e. answered (ap (λ (r : TushaletsReading). r.shape) arrived.value ∙ e)) missing fits
