-- `outstanding_claims::enter_alike` meets its contract. Assumes nothing.
use mathlib.Core.Path.{sym, ap, ◌∙◌}
use Rattle.outstanding.specs.Calls.{CallOutcome, Told}
use Rattle.outstanding_records.specs.Words.{records}
use Rattle.exports_outstanding.specs.Shown.{number_of}
use Rattle.outstanding_claims.proofs.Together.{entries-alike}
use Rattle.outstanding_claims.proofs.enter_alike.Goals as goal

pub returns : goal.returns
returns c same sound =
    let four = c in
    let three = four in
    let two = three in
    let one = two in
    let a = one.args in
    let first = one.tushalets_look-first_look.ensures in
    let second = two.tushalets_look-second_look.ensures in
    three.tushalets_enter-first.ensures.value
    ∙ ap (λ (o : CallOutcome Told). number_of o.told) (entries-alike (records a.first.now) (records a.second.now) a.id a.type_number (sym first ∙ same ∙ second) (sym (ap (λ r. r.number) first) ∙ sound))
    ∙ sym four.tushalets_enter-second.ensures.value
