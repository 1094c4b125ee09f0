-- `reply_writer::write_unknown_response` meets its contract. Assumes nothing.
use Rattle.layout.specs.Table.{plan}
use Rattle.layout.specs.Writing.{encode_message, write}
use Rattle.message_writer.proofs.Writers.{headed}
use Rattle.reply_writer.proofs.write_unknown_response.Goals as goal

pub returns : goal.returns
unfolding plan encode_message write
returns c = headed _ _ c.finish.ensures c.put_header-header.ensures
