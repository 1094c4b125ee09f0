-- `readdir_writer::write_readdir` meets its contract. Assumes nothing.
use mathlib.Core.Path.{◌≡◌, sym, ◌∙◌}
use mathlib.Core.Bool.{true, false}
use lib.Dec.{eqb}
use lib.IntN.{pos}
use lib.ListN.{length}
use lib.Signed.{lt_z}
use mir.Syntax.{w32}
use mir.ValLaws.{to_z-of_z}
use borrow.Author.Rules.{rules}
use borrow.Author.Tests.{eqb-true}
use Rattle.layout.specs.Writing.{sum, write_names}
use Rattle.readdir_writer.proofs.Readdirs.{sign-refused, sum-refused, checks-right}
use Rattle.readdir_writer.proofs.write_readdir.Goals as goal
use Rattle.readdir_writer.proofs.write_readdir.Goals.{Else-negative, Then-sums_to}

not_negative : (c : Else-negative) → lt_z c.args.res (pos 0) ≡ false
not_negative c = rw (to_z-of_z w32 c.args.res (search rules)) at c.if-negative.false

summed : (c : Then-sums_to) → let a = c.args in eqb (sum a.lengths.now) (length a.names.now) ≡ true
summed c = sym c.sums_to.ensures ∙ c.if-sums_to.true

pub returns-then-negative : goal.returns-then-negative
unfolding write_names
returns-then-negative c =
    let s = c in
    sign-refused _ _ _ _ _ (rw (to_z-of_z w32 s.args.res (search rules)) at c.if-negative.true)

pub write_summed-requires : goal.write_summed-requires
write_summed-requires c = eqb-true _ _ (summed (goal.at.write_summed-requires c).Then-sums_to)

pub returns-then-sums_to : goal.returns-then-sums_to
unfolding write_names
returns-then-sums_to c =
    let call = c in
    let then = (goal.at.returns-then-sums_to c).Then-sums_to in
    let s = then in
    checks-right _ _ _ _ (not_negative (goal.at.returns-then-sums_to c).Else-negative) (summed then) (rw (← (to_z-of_z w32 s.args.res (search rules))) call.write_summed.ensures)

pub returns : goal.returns
unfolding write_names
returns c = sum-refused _ _ _ _ (not_negative (goal.at.returns c).Else-negative) (sym c.sums_to.ensures ∙ c.if-sums_to.false)
