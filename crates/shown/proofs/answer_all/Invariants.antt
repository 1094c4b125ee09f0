-- `shown::answer_all` is safe and ends. The measure is how many turns are left. Assumes nothing.
use mathlib.Core.Path.{◌≡◌}
use lib.ListN.{length}
use borrow.Author.Rules.{rules}
use Rattle.shown.proofs.answer_all.Given as goal

abbrev pub invariant-loop-turns : goal.invariant-loop-turns
invariant-loop-turns l = (length l.body ≡ length l.initial.body) × (length l.out ≡ length l.initial.out) × (length l.lengths ≡ length l.initial.lengths)

abbrev pub decreases-loop-turns : goal.decreases-loop-turns
decreases-loop-turns l = l.turns
