-- `reply_writer::admit` meets its contract. Assumes nothing.
use mathlib.Core.Path.{◌∙◌}
use mathlib.Core.Bool.{true, false}
use borrow.Author.Rules.{rules}
use mir.Syntax.{w32}
use mir.ValLaws.{to_z-of_z}
use Rattle.reply_writer.proofs.Replied.{admit-below, admit-other}
use Rattle.reply_writer.proofs.admit.Goals as goal

pub returns-then-res-lt0 : goal.returns-then-res-lt0
returns-then-res-lt0 c =
    let a = c.args in
    rw (← (to_z-of_z w32 a.res (search rules))) (admit-below _ _ _ a.texts a.counted c.if-res-lt0.true)

pub returns-then-counted : goal.returns-then-counted
returns-then-counted c =
    let a = c.args in
    rw (← (to_z-of_z w32 a.res (search rules)), c.if-texts.true, c.if-counted.true)
    (c.admit.ensures ∙ admit-other _ _ _ true true c.if-res-lt0.false)

pub returns-then-texts : goal.returns-then-texts
returns-then-texts c =
    let a = c.args in
    rw (← (to_z-of_z w32 a.res (search rules)), c.if-texts.true, c.if-counted.false) (admit-other _ _ _ true false c.if-res-lt0.false)

pub returns : goal.returns
returns c =
    let a = c.args in
    rw (← (to_z-of_z w32 a.res (search rules)), c.if-texts.false) (admit-other _ _ _ false a.counted c.if-res-lt0.false)
