-- `data_claim::write_then_read` meets its contract. Assumes nothing.
use Prim.Native.Nat.{ℕ}
use mathlib.Core.Path.{refl, sym, subst}
use lib.ListN.{take}
use lib.Seq.{length-take-le}
use mir.Syntax.{w32}
use mir.ValLaws.{to_z-of_z}
use Rattle.number.proofs.TwosComplement.{machine-fits}
use Rattle.message_writer.proofs.Finished.{length-inside}
use Rattle.data_claim.specs.Claims.{Carries}
use Rattle.data_claim.proofs.Claims.{written-claims}
use Rattle.data_claim.proofs.write_then_read.Goals as goal

pub slice_bounds-read_data-end : goal.slice_bounds-read_data-end
slice_bounds-read_data-end c = rw c.len.ensures (length-inside _ _ _ _ _ _ _ _ c.write_read-written.ensures)

pub slice_bounds-read_data-end-2 : goal.slice_bounds-read_data-end-2
slice_bounds-read_data-end-2 c = sym (length-take-le _ _ (slice_bounds-read_data-end c))

pub returns-clause-claims_given : goal.returns-clause-claims_given
returns-clause-claims_given c =
    let read = subst (λ (k : ℕ). Carries (take k c.write_read-written.new.out) c.read_data-carried.result) c.len.ensures c.read_data-carried.ensures in
    let wrote = rw (to_z-of_z w32 c.args.res c.ranges.res) at c.write_read-written.ensures in
    record { wrote = wrote; is = written-claims _ _ _ _ c.ranges.id.fits (machine-fits w32 4 refl _ c.ranges.res) wrote read }
