-- `outstanding_claims::arrive_alike` meets its contract. Assumes nothing.
use mathlib.Core.Path.{sym, ap, ◌∙◌}
use Rattle.layout.specs.Table.{reply}
use Rattle.layout.specs.Reading.{read}
use Rattle.outstanding.specs.Calls.{CallOutcome, Arrival, look}
use Rattle.outstanding_records.specs.Words.{records}
use Rattle.exports.specs.Shown.{reading_of}
use Rattle.exports.specs.declared.TushaletsReading.{TushaletsReading}
use Rattle.exports_outstanding.specs.Shown.{shown_of, looked_of}
use Rattle.outstanding_claims.proofs.Together.{arrivals-alike}
use Rattle.outstanding_claims.proofs.arrive_alike.Goals as goal

pub returns : goal.returns
returns c same sound =
    let four = c in
    let three = four in
    let two = three in
    let one = two in
    let r = one in
    let a = r.args in
    let x = read reply a.message.now in
    let id = ap (λ (k : TushaletsReading). k.id) r.tushalets_read_reply-reading.ensures in
    let first = one.tushalets_look-first_look.ensures ∙ ap (λ i. looked_of (look (records a.first.now) i)) id in
    let second = two.tushalets_look-second_look.ensures ∙ ap (λ i. looked_of (look (records a.second.now) i)) id in
    three.tushalets_arrive-first.ensures.value
    ∙ ap (λ (o : CallOutcome Arrival). reading_of (shown_of o.told)) (arrivals-alike (records a.first.now) (records a.second.now) x (sym first ∙ same ∙ second) (sym (ap (λ k. k.number) first) ∙ sound))
    ∙ sym four.tushalets_arrive-second.ensures.value
