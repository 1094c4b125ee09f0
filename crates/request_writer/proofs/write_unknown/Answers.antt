-- `request_writer::write_unknown` meets its contract. Assumes nothing.
use mathlib.Core.Path.{sym}
use Rattle.message_writer.proofs.Writers.{headed}
use Rattle.request_writer.proofs.Asked.{known-type, unknown-type}
use Rattle.request_writer.proofs.write_unknown.Goals as goal

pub returns-in-Some : goal.returns-in-Some
returns-in-Some c = known-type _ _ _ (sym c.in-Some.ensures)

pub returns-in-None : goal.returns-in-None
returns-in-None c = unknown-type _ _ _ (sym c.in-None.ensures) (headed _ _ c.finish.ensures c.put_header-header.ensures)
