-- `field_reader::names_at` meets its contract. The loop has met the names before `at`, and `left` are left of the count. Assumes nothing.
use Rattle.field_reader.proofs.NamesMet.{Met}
use Rattle.field_reader.proofs.names_at.Given as goal

abbrev pub invariant-loop-left : goal.invariant-loop-left
invariant-loop-left l = Met l.m l.count.value l.initial.at l.left l.at

abbrev pub decreases-loop-left : goal.decreases-loop-left
decreases-loop-left l = l.left
