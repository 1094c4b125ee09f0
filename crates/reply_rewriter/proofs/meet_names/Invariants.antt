-- `reply_rewriter::meet_names` meets its contract. Assumes nothing.
use Rattle.reply_rewriter.proofs.Meeting.{Left}
use Rattle.reply_rewriter.proofs.meet_names.Given as goal

abbrev pub invariant-loop-left : goal.invariant-loop-left
invariant-loop-left l = Left l.m l.count l.left l.texts l.len

abbrev pub decreases-loop-left : goal.decreases-loop-left
decreases-loop-left l = l.left
