-- `reply_writer::write_failure` meets its contract: the type, then the sign, then the room. Assumes nothing.
use native.Mathlib.Omega.{arith}
use borrow.Author.Rules.{rules}
use mir.Syntax.{w32}
use mir.ValLaws.{to_z-of_z}
use Rattle.layout.proofs.ReplyTypes.{led-type, no-failure-below, no-failure-above}
use Rattle.reply_writer.proofs.Replied.{no-failure-type, no-failure-sign, failed}
use Rattle.reply_writer.proofs.write_failure.Goals as goal

pub returns-then-type_number-lt-ACCESS_REPLY : goal.returns-then-type_number-lt-ACCESS_REPLY
returns-then-type_number-lt-ACCESS_REPLY c = let a = c.args in no-failure-type _ _ _ _ (no-failure-below a.type_number (omega arith))

pub returns-then-type_number-gt-UTIMENS_REPLY : goal.returns-then-type_number-gt-UTIMENS_REPLY
returns-then-type_number-gt-UTIMENS_REPLY c = let a = c.args in no-failure-type _ _ _ _ (no-failure-above a.type_number (omega arith))

pub returns-then-res-lt0 : goal.returns-then-res-lt0
returns-then-res-lt0 c =
    let early = c in
    let a = early.args in
    rw (← (to_z-of_z w32 a.res (search rules)))
    (failed _ _ _ _ (led-type a.type_number (omega arith, omega arith)).is c.admit-place.ensures c.if-res-lt0.true c.finish.ensures c.put_result-behind_result.ensures)

pub returns : goal.returns
returns c =
    let a = c.args in
    rw (← (to_z-of_z w32 a.res (search rules)))
    (no-failure-sign _ _ _ _ (led-type a.type_number (omega arith, omega arith)).is c.if-res-lt0.false)
