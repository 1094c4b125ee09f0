-- `request_writer::write_getcreds` meets its contract. Assumes nothing.
use Rattle.method.specs.Methods.{of_request}
use Rattle.layout.specs.Table.{plan}
use Rattle.layout.specs.Writing.{encode_message, write}
use Rattle.message_writer.proofs.Writers.{headed}
use Rattle.request_writer.proofs.write_getcreds.Goals as goal

pub returns : goal.returns
unfolding write encode_message plan of_request
returns c = headed _ _ c.finish.ensures c.put_header-header.ensures
