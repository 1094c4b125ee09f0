-- `examples::reply` meets its contract. Assumes nothing.
use Rattle.examples.proofs.Kept.{written-rest}
use Rattle.examples.proofs.reply.Goals as goal

pub returns-in-Open : goal.returns-in-Open
returns-in-Open c = written-rest _ _ _ _ _ _ _ _ c.write_open.ensures

pub returns-in-Read : goal.returns-in-Read
returns-in-Read c = written-rest _ _ _ _ _ _ _ _ c.write_read.ensures

pub returns-in-Release : goal.returns-in-Release
returns-in-Release c = written-rest _ _ _ _ _ _ _ _ c.write_release.ensures

pub returns-in-Getcreds : goal.returns-in-Getcreds
returns-in-Getcreds c = written-rest _ _ _ _ _ _ _ _ c.write_getcreds.ensures

pub returns-in_default : goal.returns-in_default
returns-in_default c = written-rest _ _ _ _ _ _ _ _ c.write_failure.ensures
