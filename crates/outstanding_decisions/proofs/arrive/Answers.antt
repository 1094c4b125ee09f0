-- `outstanding_decisions::arrive` meets its contract. Assumes nothing.
use mathlib.Core.Path.{refl, sym, ◌∙◌, ap}
use Rattle.layout.specs.Table.{reply}
use Rattle.layout.specs.Reading.{read}
use Rattle.outstanding.proofs.Cases.{arrive-unsound, arrive-sound}
use Rattle.outstanding_records.specs.Words.{records}
use Rattle.outstanding_decisions.specs.Decisions.{arrival_of}
use Rattle.outstanding_decisions.proofs.Deciding.{stops-in}
use Rattle.outstanding_decisions.proofs.arrive.Goals as goal

pub returns-then-not-is_sound : goal.returns-then-not-is_sound
returns-then-not-is_sound c =
    let s = c in
    let a = s.args in
    let ws = a.words.now in
    let r = c.refused_removal.ensures in
    stops-in ws (ap (arrival_of a.message.now) r.1) r.0 refl (arrive-unsound (records ws) (sym s.is_sound.ensures ∙ c.if-not-is_sound.true) (read reply a.message.now))

pub returns : goal.returns
returns c =
    let s = c in
    let a = s.args in
    rw (arrive-sound (records a.words.now) (sym s.is_sound.ensures ∙ c.if-not-is_sound.false) (read reply a.message.now)) c.settle.ensures
