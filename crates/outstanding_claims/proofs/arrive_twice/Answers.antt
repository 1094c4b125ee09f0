-- `outstanding_claims::arrive_twice` meets its contract. Assumes nothing.
use mathlib.Core.Path.{ap, ◌∙◌}
use Rattle.layout.specs.Table.{reply}
use Rattle.layout.specs.Reading.{read}
use Rattle.exports.specs.declared.TushaletsReading.{TushaletsReading}
use Rattle.exports.specs.Shown.{reading_of}
use Rattle.outstanding_claims.proofs.Together.{shown, again-stray}
use Rattle.outstanding_claims.proofs.arrive_twice.Goals as goal

pub returns : goal.returns
returns c answered =
    let one = c in
    let a = one.args in
    let x = read reply a.message.now in
    let arrived = one.tushalets_arrive-first.ensures in
    c.tushalets_arrive-second.ensures.value ∙ ap (λ ws. reading_of (shown ws x)) arrived.records_after
    ∙ ap reading_of (again-stray a.records.now x (λ e. answered (ap (λ (r : TushaletsReading). r.shape) arrived.value ∙ e)))
