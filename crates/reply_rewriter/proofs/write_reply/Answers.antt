-- `reply_rewriter::write_reply` meets its contract: in each arm the reply is of a known variant, and what is written is what its function
-- ensures. Assumes nothing.
use mathlib.Core.Path.{◌≡◌}
use mir.Syntax.{w32}
use mir.Val.{to_z, of_z}
use mir.ValLaws.{to_z-of_z}
use borrow.Author.Rules.{rules}
use Rattle.layout.specs.Names.{first_name}
use Rattle.layout.proofs.Iterating.{length-names_at}
use Rattle.reply_rewriter.proofs.write_reply.Goals as goal
use Rattle.reply_rewriter.proofs.write_reply.Goals.{Start}

-- the bits of the result are its own
bits-of : (c : Start) → to_z w32 (of_z w32 c.args.res) ≡ c.args.res
bits-of c = to_z-of_z w32 c.args.res (search rules)

pub returns-in-Getattr : goal.returns-in-Getattr
returns-in-Getattr c = rw c.in-Getattr.is (rw (bits-of (goal.at.returns-in-Getattr c).Start) at c.write_getattr.ensures)

pub returns-in-Readdir : goal.returns-in-Readdir
returns-in-Readdir c = rw (c.in-Readdir.is, length-names_at c.in-Readdir.count c.args.m.now first_name) (rw (bits-of (goal.at.returns-in-Readdir c).Start) at c.write_readdir.ensures)
