-- `request_lines::put_fields` meets its contract: in each arm the request is of a known variant. Assumes nothing.
use Rattle.lines.proofs.Adding.{none}
use Rattle.request_lines.proofs.put_fields.Goals as goal

pub returns-in-Getcreds : goal.returns-in-Getcreds
returns-in-Getcreds c = rw c.in-Getcreds.is none
