-- `outstanding_claims::either_order` meets its contract. Assumes nothing.
use mathlib.Core.Path.{sym, ap, ◌∙◌}
use Rattle.layout.specs.Table.{reply}
use Rattle.layout.specs.Reading.{read}
use Rattle.exports.specs.Shown.{reading_of}
use Rattle.outstanding_claims.proofs.Together.{left, shown, either}
use Rattle.outstanding_claims.proofs.either_order.Goals as goal

pub returns : goal.returns
returns c same =
    let four = c in
    let three = four in
    let two = three in
    let one = two in
    let a = one.args in
    let x = read reply a.one.now in
    let y = read reply a.other.now in
    let second = two.tushalets_arrive-b.ensures in
    either a.first.now x y (one.tushalets_arrive-a.ensures.value, one.tushalets_arrive-a.ensures.records_after)
    (second.value ∙ ap (λ ws. reading_of (shown ws y)) (sym same), second.records_after ∙ ap (λ ws. left ws y) (sym same))
    (three.tushalets_arrive-b_behind.ensures.value, three.tushalets_arrive-b_behind.ensures.records_after) (four.tushalets_arrive-a_behind.ensures.value, four.tushalets_arrive-a_behind.ensures.records_after)
