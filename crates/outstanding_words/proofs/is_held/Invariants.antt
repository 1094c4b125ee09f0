-- `outstanding_words::is_held` meets its contract. Assumes nothing.
use Rattle.std.proofs.Common.{◌≡◌, take}
use Rattle.outstanding.specs.Records.{holds_id, any}
use Rattle.outstanding_records.specs.Words.{records}
use Rattle.outstanding_words.proofs.is_held.Given as goal

-- a record holds the id among those up to here
abbrev pub invariant-loop-w : goal.invariant-loop-w
invariant-loop-w l = l.held ≡ any (holds_id l.id) (records (take l.w-index l.words))
