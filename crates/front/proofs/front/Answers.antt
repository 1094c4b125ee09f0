-- `front::front` meets its contract. Assumes nothing.
use mathlib.Core.Path.{refl, sym, ap, ◌∙◌}
use Rattle.request_reader.specs.Answers.{answer_of}
use Rattle.front.proofs.Answering.{known-handed-on, unknown-answered}
use Rattle.front.proofs.front.Goals as goal

pub answer_refused-requires : goal.answer_refused-requires
answer_refused-requires c = record { place = _; is = sym c.read_request-answer.ensures ∙ ap answer_of c.in-Refused.is }

pub returns-in-Known : goal.returns-in-Known
returns-in-Known c = known-handed-on _ _ (sym c.read_request-answer.ensures ∙ ap answer_of c.in-Known.is) refl

pub returns-in-Unknown : goal.returns-in-Unknown
returns-in-Unknown c =
    let early = c in
    unknown-answered _ _ (sym early.read_request-answer.ensures ∙ ap answer_of c.in-Unknown.is) c.answer_unknown.ensures
