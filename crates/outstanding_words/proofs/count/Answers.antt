-- `outstanding_words::count` meets its contract. Assumes nothing.
use Rattle.std.proofs.Common.{rules}
use Rattle.outstanding_words.proofs.Searches.{ids_turn, ids_so_far}
use Rattle.outstanding_words.proofs.count.Goals as goal

pub overflow_add-n : goal.overflow_add-n
overflow_add-n c = let h = ids_so_far c.args.words.now c.loop-word.word-index in search rules

pub loop-word-preserved : goal.loop-word-preserved
loop-word-preserved c = let h = ids_turn c.args.words.now c.loop-word.word-index in search rules
