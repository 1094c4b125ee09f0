-- `text::well_formed_end` meets its contract. The loop has passed well-formed text up to `at`, and what is left decides the end.
-- Assumes nothing.
use mathlib.Core.Path.{sym, ◌∙◌}
use Prim.Native.Nat.{◌+◌}
use native.Mathlib.Omega.{arith}
use Rattle.text.proofs.Decisions.{Passed, passed_none, passed-more, passed-end, passed-all}
use Rattle.text.proofs.well_formed_end.Goals as goal
use Rattle.text.proofs.well_formed_end.Goals.{Else-size-eq0}

-- past the character
more : (c : Else-size-eq0)
    → Passed c.args.s.now (c.loop-at.at + c.character_at-size.result)
more c = passed-more _ _ _ c.character_at-size.ensures (omega arith) c.loop-at.invariant

pub loop-at-init : goal.loop-at-init
loop-at-init c = passed_none _

pub character_at-size-requires : goal.character_at-size-requires
character_at-size-requires c = omega arith

pub returns-then-size-eq0 : goal.returns-then-size-eq0
returns-then-size-eq0 c = passed-end _ _ (sym c.character_at-size.ensures ∙ c.if-size-eq0.true) c.loop-at.invariant

pub overflow_add-at : goal.overflow_add-at
overflow_add-at c = omega (arith, more c)

pub loop-at-smaller : goal.loop-at-smaller
loop-at-smaller c = omega (arith, more c)

pub loop-at-preserved : goal.loop-at-preserved
loop-at-preserved c = more c

pub returns : goal.returns
returns c = passed-all _ _ c.loop-at-test.false c.loop-at.invariant
