-- `field_writer::put_run` meets its contract: the room of the length and of the bytes is tested before either is stored. Assumes nothing.
use mathlib.Core.Path.{ap}
use mathlib.Core.List.{List, ◌++◌, append-nil}
use Prim.Native.Nat.{ℕ}
use native.Mathlib.Omega.{arith}
use lib.ListN.{length, length-append}
use Rattle.number.specs.BigEndian.{bytes_of}
use Rattle.number.proofs.BigEndian.{length-bytes_of}
use Rattle.layout.specs.Writing.{sized}
use Rattle.field_writer.specs.Stored.{none, more}
use Rattle.field_writer.proofs.Storing.{put-stays, run-refused, run-oversize, run_fits, whole-put}
use Rattle.field_writer.proofs.put_run.Goals as goal

pub returns-then-code-ne-NONE : goal.returns-then-code-ne-NONE
returns-then-code-ne-NONE c = let a = c.args in rw (run-refused a.c (length a.s.now) c.if-code-ne-NONE.true) (put-stays a.c a.out.now (sized a.s.now) c.if-code-ne-NONE.true)

pub returns-then-len-gt-LONGEST_MESSAGE : goal.returns-then-len-gt-LONGEST_MESSAGE
returns-then-len-gt-LONGEST_MESSAGE c = let a = c.args in rw (run-oversize a.c (length a.s.now) c.if-code-ne-NONE.false c.if-len-gt-LONGEST_MESSAGE.true) (put-stays _ a.out.now (sized a.s.now) (λ z. omega arith))

pub returns : goal.returns
returns c =
    let early = c in
    let a = early.args in
    let size = bytes_of 4 (length a.s.now) in
    rw (run_fits a.c (length a.s.now) early.if-code-ne-NONE.false (omega (arith, early.if-len-gt-LONGEST_MESSAGE.false)))
    (whole-put (size ++ a.s.now) (ap (λ (e : List ℕ). size ++ e) (append-nil a.s.now)) (omega (arith, length-append size a.s.now, length-bytes_of 4 (length a.s.now)))
    early.room-start.ensures (more c.put_u32-behind_length.ensures (more c.put_all.ensures none)))
