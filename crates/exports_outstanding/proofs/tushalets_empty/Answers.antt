-- `exports_outstanding::tushalets_empty` meets its contract. Assumes nothing.
use mathlib.Core.Path.{refl, ◌∙◌}
use Rattle.std.proofs.Common.{rules}
use Rattle.std.proofs.lemmas.Simd.{splat_is_map}
use Rattle.outstanding.proofs.Cases.{empty-other-size, empty-done}
use Rattle.exports_outstanding.proofs.tushalets_empty.Goals as goal

pub returns-then-records-ne-SIZE-clause-value : goal.returns-then-records-ne-SIZE-clause-value
returns-then-records-ne-SIZE-clause-value c = rw (empty-other-size 0 c.args.records.now c.if-records-ne-SIZE.true) refl

pub returns-then-records-ne-SIZE-clause-records_after : goal.returns-then-records-ne-SIZE-clause-records_after
returns-then-records-ne-SIZE-clause-records_after c = rw (empty-other-size 0 c.args.records.now c.if-records-ne-SIZE.true) refl

pub returns-clause-value : goal.returns-clause-value
returns-clause-value c = rw (empty-done 0 c.args.records.now c.if-records-ne-SIZE.false) refl

pub returns-clause-records_after : goal.returns-clause-records_after
returns-clause-records_after c = rw (empty-done 0 c.args.records.now c.if-records-ne-SIZE.false) (c.fill.ensures.after (λ y k. search rules) ∙ splat_is_map c.args.records.now _ 0 refl)
