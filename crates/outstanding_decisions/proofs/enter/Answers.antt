-- `outstanding_decisions::enter` meets its contract. Assumes nothing.
use mathlib.Core.Path.{sym, ◌∙◌}
use Rattle.outstanding.proofs.Cases.{enter-unsound, enter-sound}
use Rattle.outstanding_records.specs.Words.{records}
use Rattle.outstanding_decisions.proofs.Deciding.{stops-in}
use Rattle.outstanding_decisions.proofs.enter.Goals as goal

pub returns-then-not-is_sound : goal.returns-then-not-is_sound
returns-then-not-is_sound c =
    let s = c in
    let a = s.args in
    let ws = a.words.now in
    let r = c.refused_entry.ensures in
    stops-in ws r.0 r.1 r.2 (enter-unsound (records ws) (sym s.is_sound.ensures ∙ c.if-not-is_sound.true) a.id a.type_number)

pub returns : goal.returns
returns c =
    let s = c in
    let a = s.args in
    rw (enter-sound (records a.words.now) (sym s.is_sound.ensures ∙ c.if-not-is_sound.false) a.id a.type_number) c.insert.ensures
