-- `outstanding_words::is_sound` meets its contract. Assumes nothing.
use Rattle.std.proofs.Common.{◌≡◌, length}
use Rattle.outstanding_records.specs.Words.{records}
use Rattle.outstanding_words.proofs.Scans.{soundly}
use Rattle.outstanding_words.proofs.is_sound.Given as goal

-- all records are sound where those that are left are
abbrev pub invariant-loop-w : goal.invariant-loop-w
invariant-loop-w l = soundly (records l.words) ≡ soundly (records l.rest)

abbrev pub decreases-loop-w : goal.decreases-loop-w
decreases-loop-w l = length l.rest
