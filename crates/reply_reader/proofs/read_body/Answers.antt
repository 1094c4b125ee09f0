-- `reply_reader::read_body` meets its contract: the type decides, or leads on. Assumes nothing.
use native.Mathlib.Omega.{arith}
use Rattle.layout.specs.Table.{plan}
use Rattle.reply_reader.specs.Answers.{answer_at}
use Rattle.reply_reader.proofs.Types.{unexpected-low, unexpected-high}
use Rattle.reply_reader.proofs.read_body.Goals as goal

pub returns-then-type_number-eq-UNKNOWN_RESPONSE : goal.returns-then-type_number-eq-UNKNOWN_RESPONSE
unfolding plan
returns-then-type_number-eq-UNKNOWN_RESPONSE c = rw c.if-type_number-eq-UNKNOWN_RESPONSE.true

pub returns-then-type_number-eq-GETCREDS_REPLY : goal.returns-then-type_number-eq-GETCREDS_REPLY
unfolding answer_at
returns-then-type_number-eq-GETCREDS_REPLY c = rw c.if-type_number-eq-GETCREDS_REPLY.true c.read_getcreds.ensures

pub returns-then-type_number-lt-ACCESS_REPLY : goal.returns-then-type_number-lt-ACCESS_REPLY
returns-then-type_number-lt-ACCESS_REPLY c = let a = c.args in unexpected-low a.m.now a.id a.type_number (omega arith)

pub returns-then-type_number-gt-UTIMENS_REPLY : goal.returns-then-type_number-gt-UTIMENS_REPLY
returns-then-type_number-gt-UTIMENS_REPLY c = let a = c.args in unexpected-high a.m.now a.id a.type_number (omega arith)

pub returns : goal.returns
unfolding answer_at
returns c = c.read_result.ensures
