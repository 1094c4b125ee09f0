-- `outstanding_decisions::settle` meets its contract. Assumes nothing.
use mathlib.Core.Path.{sym, ◌∙◌}
use Rattle.outstanding_records.specs.Words.{records}
use Rattle.outstanding_decisions.proofs.Deciding.{settle-accepted}
use Rattle.outstanding_decisions.proofs.settle.Goals as goal

pub returns-in-Accepted : goal.returns-in-Accepted
returns-in-Accepted c =
    let g = c in
    let a = g.args in
    let m = a.message.now in
    let r = g.read_reply-answer in
    rw (settle-accepted (records a.words.now) m r.result _ r.ensures (sym g.reading_of-reading.ensures ∙ c.in-Accepted.is)) (rw (sym c.type_of.ensures) (c.settle_accepted.ensures m))
