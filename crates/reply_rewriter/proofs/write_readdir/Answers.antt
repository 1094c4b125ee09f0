-- `reply_rewriter::write_readdir` meets its contract. Assumes nothing.
use mathlib.Core.Path.{◌≡◌, refl}
use mathlib.Core.Bool.{true, false}
use lib.IntN.{pos}
use lib.Signed.{lt_z}
use mir.Syntax.{w32}
use mir.Val.{to_z, of_z}
use mir.ValLaws.{to_z-of_z}
use borrow.Author.Rules.{rules}
use Rattle.field_writer.specs.Stored.{none, more}
use Rattle.readdir_writer.proofs.Readdirs.{sign-refused, checks-right}
use Rattle.reply_rewriter.proofs.Meeting.{met-wrote}
use Rattle.reply_rewriter.proofs.write_readdir.Goals as goal
use Rattle.reply_rewriter.proofs.write_readdir.Goals.{Else-res-lt0}

-- the bits of the result are its own
bits-of : (c : Else-res-lt0) → let z = c.args.res in to_z w32 (of_z w32 z) ≡ z
bits-of c = to_z-of_z w32 c.args.res (search rules)

not_negative : (c : Else-res-lt0) → lt_z c.args.res (pos 0) ≡ false
not_negative c = rw (bits-of c) at c.if-res-lt0.false

pub returns-then-res-lt0 : goal.returns-then-res-lt0
returns-then-res-lt0 c = let a = c.args in sign-refused _ _ _ _ true (rw (to_z-of_z w32 a.res (search rules)) at c.if-res-lt0.true)

pub returns : goal.returns
returns c =
    let names = c in
    let part = names in
    let count = part in
    let result = count in
    let header = result in
    let admit = header in
    let met = admit in
    let a = met.args in
    checks-right _ _ _ _ (not_negative (goal.at.returns c).Else-res-lt0) refl
    (met-wrote a.id a.res met.meet_names-names.ensures admit.admit-start.ensures
    (more header.put_header-header.ensures
    (more (rw (bits-of (goal.at.returns c).Else-res-lt0) at result.put_i32-behind_result.ensures)
    (more count.put_u32-behind_count.ensures
    (more (rw part.bytes_of.ensures.bytes at names.put_all-behind_names.ensures) none))))
    c.finish.ensures)
