-- `outstanding_words::count` meets its contract. Assumes nothing.
use Rattle.std.proofs.Common.{◌≡◌, take, length}
use Rattle.outstanding.specs.Records.{ids}
use Rattle.outstanding_records.specs.Words.{records}
use Rattle.outstanding_words.proofs.count.Given as goal

-- n are outstanding among those up to here
abbrev pub invariant-loop-word : goal.invariant-loop-word
invariant-loop-word l = l.n ≡ length (ids (records (take l.word-index l.words)))
