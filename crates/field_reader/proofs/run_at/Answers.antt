-- `field_reader::run_at` meets its contract: the run fits or not, and then its text is right or not. Assumes nothing.
use mathlib.Core.Path.{◌≡◌, refl, ap, ◌∙◌}
use mathlib.Core.Bool.{true, false}
use Rattle.layout.specs.Values.{part}
use native.Mathlib.Omega.{arith}
use Prim.Native.Nat.{◌+◌, ◌≤◌}
use lib.ListN.{length}
use Rattle.text.specs.Utf8.{well_formed}
use mir.Syntax.{w64}
use mir.Val.{Fits}
use Rattle.layout.specs.Refusals.{malformed_text}
use Rattle.layout.specs.Reading.{malformed_place, run_at, valid_by}
use Rattle.layout.proofs.Breaking.{malformed-inside}
use Rattle.wire.specs.Cursors.{refusal_at}
use Rattle.field_reader.proofs.Cursors.{stays, run-truncated, run-malformed, run-whole, text-right, text-wrong, text-breaks}
use Rattle.field_reader.proofs.run_at.Goals as goal
use Rattle.field_reader.proofs.run_at.Goals.{Then-well_formed-len}

-- the place where text breaks is no greater than the run's end
breaks-fits : (c : Then-well_formed-len) → let a = c.args in Fits w64 (a.c.at + c.well_formed_end-well_formed.result)
breaks-fits c =
    let a = c.args in
    let inside : a.c.at + a.len ≤ length a.m.now = omega arith in
    omega (arith, text-breaks a.m.now a.c.at a.len inside c.well_formed_end-well_formed.ensures, malformed-inside a.len a.m.now a.c.at inside)

pub returns-then-code-ne-NONE : goal.returns-then-code-ne-NONE
returns-then-code-ne-NONE c =
    let a = c.args in
    rw (c.stopped.ensures.0, c.stopped.ensures.1) (stays a.c (run_at (valid_by a.text) a.len) (part 0 0) c.if-code-ne-NONE.true)

pub returns-then-all-start : goal.returns-then-all-start
returns-then-all-start c =
    let b = c in
    let a = b.args in
    rw (c.stopped-then-all-start.ensures.0, c.stopped-then-all-start.ensures.1) (run-truncated (valid_by a.text) a.len a.c b.if-code-ne-NONE.false (part 0 0) (omega arith))

pub returns-then-all-start-2 : goal.returns-then-all-start-2
returns-then-all-start-2 c =
    let b = c in
    let a = b.args in
    rw (c.stopped-then-all-start-2.ensures.0, c.stopped-then-all-start-2.ensures.1) (run-truncated (valid_by a.text) a.len a.c b.if-code-ne-NONE.false (part 0 0) (omega arith))

pub overflow_add-start : goal.overflow_add-start
overflow_add-start c = breaks-fits c

pub returns-then-well_formed-len : goal.returns-then-well_formed-len
returns-then-well_formed-len c =
    let w = c in
    let b = w in
    let a = b.args in
    let inside : a.c.at + a.len ≤ length a.m.now = omega arith in
    let breaks : c.stopped-then-well_formed-len.result.next ≡ refusal_at malformed_text (malformed_place a.len a.m.now a.c.at) =
    c.stopped-then-well_formed-len.ensures.0 ∙ ap (refusal_at malformed_text) (text-breaks a.m.now a.c.at a.len inside w.well_formed_end-well_formed.ensures) in
    rw (breaks, c.stopped-then-well_formed-len.ensures.1, w.if-text.true)
    (run-malformed well_formed a.len a.c b.if-code-ne-NONE.false (part 0 0) inside (text-wrong a.m.now a.c.at a.len inside w.well_formed_end-well_formed.ensures c.if-well_formed-len.true))

pub returns-else-well_formed-len : goal.returns-else-well_formed-len
returns-else-well_formed-len c =
    let w = c in
    let b = w in
    let a = b.args in
    let inside : a.c.at + a.len ≤ length a.m.now = omega arith in
    rw w.if-text.true
    (run-whole well_formed a.len a.c b.if-code-ne-NONE.false (part 0 0) inside (text-right a.m.now a.c.at a.len inside w.well_formed_end-well_formed.ensures c.if-well_formed-len.false))

pub returns-else-text : goal.returns-else-text
returns-else-text c =
    let b = c in
    let a = b.args in
    rw c.if-text.false (run-whole (valid_by false) a.len a.c b.if-code-ne-NONE.false (part 0 0) (omega arith) refl)
