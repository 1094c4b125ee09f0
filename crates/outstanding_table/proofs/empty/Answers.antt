-- `outstanding_table::empty` meets its contract. Assumes nothing.
use mathlib.Core.Path.{refl, sym, ap, ◌∙◌}
use Rattle.std.proofs.lemmas.Simd.{splat_is_map}
use Rattle.outstanding_records.specs.declared.Record.TheVariants.{Free}
use Rattle.outstanding.specs.Calls.{performed, done}
use Rattle.outstanding.proofs.Cases.{empty-other-size, empty-done}
use Rattle.outstanding_table.proofs.empty.Goals as goal

pub returns-then-records-ne-SIZE : goal.returns-then-records-ne-SIZE
returns-then-records-ne-SIZE c = sym (empty-other-size Free c.args.records.now c.if-records-ne-SIZE.true)

pub returns : goal.returns
returns c =
    ap (performed done) (c.clear.ensures ∙ splat_is_map c.args.records.now _ Free refl) ∙ sym (empty-done Free c.args.records.now c.if-records-ne-SIZE.false)
