-- `names::count_of_reply` meets its contract. Assumes nothing.
use mathlib.Core.Path.{sym, ap}
use lib.ListN.{length}
use Rattle.layout.proofs.Iterating.{length-names_at}
use Rattle.names.proofs.Replies.{split, other-nameless}
use Rattle.names.proofs.count_of_reply.Goals as goal

pub returns-in-Readdir : goal.returns-in-Readdir
returns-in-Readdir c m z = rw c.in-Readdir.is (sym (length-names_at _ m _))

pub returns : goal.returns
returns c m z = sym (ap length (other-nameless (split c.args.reply) c.in_default.not-Readdir m z))
