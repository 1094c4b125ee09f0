-- `outstanding_decisions::look` meets its contract. Assumes nothing.
use mathlib.Core.Path.{refl, sym, ◌∙◌}
use Rattle.outstanding.proofs.Cases.{look-unsound, look-sound}
use Rattle.outstanding_records.specs.Words.{records}
use Rattle.outstanding_decisions.proofs.look.Goals as goal

pub returns-then-not-is_sound : goal.returns-then-not-is_sound
returns-then-not-is_sound c =
    let s = c in
    let a = s.args in
    c.refused_look.ensures ∙ sym (look-unsound (records a.words.now) (sym s.is_sound.ensures ∙ c.if-not-is_sound.true) a.id)

pub returns : goal.returns
returns c =
    let s = c in
    let a = s.args in
    rw (look-sound (records a.words.now) (sym s.is_sound.ensures ∙ c.if-not-is_sound.false) a.id, c.count-count.ensures, c.request_of-found.ensures) refl
