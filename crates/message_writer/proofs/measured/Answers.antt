-- `message_writer::measured` meets its contract. Assumes nothing.
use Prim.Native.Nat.{◌+◌}
use native.Mathlib.Omega.{arith}
use Rattle.message_writer.proofs.Writers.{admit-oversize, admit-no-room, admit-found}
use Rattle.message_writer.proofs.measured.Goals as goal

pub returns-then-first-gt-LONGEST_MESSAGE : goal.returns-then-first-gt-LONGEST_MESSAGE
returns-then-first-gt-LONGEST_MESSAGE c = let a = c.args in admit-oversize (a.first + a.second + a.rest) a.len (omega arith)

pub returns-then-second-gt-LONGEST_MESSAGE : goal.returns-then-second-gt-LONGEST_MESSAGE
returns-then-second-gt-LONGEST_MESSAGE c = let a = c.args in admit-oversize (a.first + a.second + a.rest) a.len (omega arith)

pub returns-then-rest-gt-LONGEST_MESSAGE : goal.returns-then-rest-gt-LONGEST_MESSAGE
returns-then-rest-gt-LONGEST_MESSAGE c = let a = c.args in admit-oversize (a.first + a.second + a.rest) a.len (omega arith)

pub returns-then-size-gt-LONGEST_MESSAGE : goal.returns-then-size-gt-LONGEST_MESSAGE
returns-then-size-gt-LONGEST_MESSAGE c = let a = c.args in admit-oversize (a.first + a.second + a.rest) a.len (omega arith)

pub returns-then-len-size : goal.returns-then-len-size
returns-then-len-size c = let a = c.args in admit-no-room (a.first + a.second + a.rest) a.len (omega arith) (omega arith)

pub returns : goal.returns
returns c = let a = c.args in admit-found (a.first + a.second + a.rest) a.len (omega arith) (omega arith)
