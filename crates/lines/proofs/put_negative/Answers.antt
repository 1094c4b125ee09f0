-- `lines::put_negative` meets its contract: the room of the sign and of the digits is tested before either is stored. Assumes nothing.
use mathlib.Core.Path.{ap}
use mathlib.Core.List.{List, ◌∷◌, append-nil}
use Prim.Native.Nat.{ℕ}
use native.Mathlib.Omega.{arith}
use Rattle.field_writer.specs.Stored.{none, more}
use Rattle.field_writer.proofs.Storing.{whole-put}
use Rattle.lines.specs.Lines.{decimal}
use Rattle.lines.proofs.Adding.{begins-length}
use Rattle.lines.proofs.put_negative.Goals as goal

pub returns : goal.returns
returns c =
    let early = c in
    let earlier = early in
    let digits = early.digits_of-len.ensures.begins in
    let magnitude = earlier.args.magnitude in
    whole-put _ (ap (λ (e : List ℕ). 45 ∷ e) (append-nil (decimal magnitude))) (omega (arith, begins-length digits))
    early.room-start.ensures
    (more early.put_all-behind_sign.ensures
    (more (rw digits.is at c.put_all.ensures)
    none))
