-- `field_reader::names_at` meets its contract. The loop has met the names before `at`, and `left` are left of the count. Assumes nothing.
use native.Mathlib.Omega.{arith}
use borrow.Author.Tests.{ne_eqb}
use Rattle.layout.specs.Reading.{num_at}
use Rattle.field_reader.proofs.Cursors.{map-ended, number_behind}
use Rattle.field_reader.proofs.NamesMet.{string-met, string-failed, met-none, met-more, met-failed, met_all, count-refused, name-refused, names-read}
use Rattle.field_reader.proofs.names_at.Goals as goal

pub returns-then-code-ne-NONE : goal.returns-then-code-ne-NONE
returns-then-code-ne-NONE c = let count = c.word_at-count.ensures in rw (count.empty c.if-code-ne-NONE.true) (count-refused count c.if-code-ne-NONE.true)

pub loop-left-init : goal.loop-left-init
loop-left-init c = met-none _ _ _

pub returns-then-code-ne-NONE-2 : goal.returns-then-code-ne-NONE-2
returns-then-code-ne-NONE-2 c =
    let name = c in
    let loop = name in
    let count = loop in
    let d = name.string_at-name.result.next in
    let failed = met-failed loop.loop-left.invariant name.loop-left-test.true (string-failed _ _ name.string_at-name.ensures c.if-code-ne-NONE-2.true) in
    name-refused count.word_at-count.ensures d loop.if-code-ne-NONE.false (rw (ne_eqb d.code 0 c.if-code-ne-NONE-2.true) failed)

pub overflow_sub-left : goal.overflow_sub-left
overflow_sub-left c = omega arith

pub loop-left-smaller : goal.loop-left-smaller
loop-left-smaller c = omega arith

pub loop-left-preserved : goal.loop-left-preserved
loop-left-preserved c = met-more c.loop-left.invariant c.loop-left-test.true (string-met _ _ c.string_at-name.ensures c.if-code-ne-NONE-2.false)

pub returns : goal.returns
returns c =
    let loop = c in
    let count = loop.word_at-count.ensures in
    let first = loop.if-code-ne-NONE.false in
    rw (← (number_behind (λ n. n) 4 (map-ended (λ n. n) (num_at 4) count) first)) (names-read count _ _ first (met_all loop.loop-left.invariant (omega arith)))
