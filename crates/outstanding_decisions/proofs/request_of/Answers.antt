-- `outstanding_decisions::request_of` meets its contract. Assumes nothing.
use mathlib.Core.Path.{sym, ◌∙◌, ap}
use Rattle.outstanding.specs.Records.{holds_id}
use Rattle.outstanding.proofs.Lists.{none-found}
use Rattle.outstanding.proofs.Maps.{lookup_absent}
use Rattle.outstanding_records.specs.Words.{records}
use Rattle.outstanding_decisions.specs.Decisions.{request_in}
use Rattle.outstanding_decisions.proofs.Deciding.{lookup-at}
use Rattle.outstanding_decisions.proofs.request_of.Goals as goal

pub returns-in_default : goal.returns-in_default
returns-in_default c =
    let a = c.args in
    let l = records a.words.now in
    sym (lookup_absent l a.id (none-found (holds_id a.id) l (sym c.find_id.ensures ∙ c.in_default.is)))

pub returns-in-Free : goal.returns-in-Free
returns-in-Free c = sym (lookup-at c.args.words.now c.args.id (sym c.find_id.ensures ∙ c.in-Some.is) ∙ ap request_in (sym c.from.ensures ∙ c.in-Free.is))

pub returns-in-Held : goal.returns-in-Held
returns-in-Held c = sym (lookup-at c.args.words.now c.args.id (sym c.find_id.ensures ∙ c.in-Some.is) ∙ ap request_in (sym c.from.ensures ∙ c.in-Held.is))
