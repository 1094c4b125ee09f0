-- `number::read_u8` meets its contract: one byte is the number that it is. Assumes nothing.
use mathlib.Core.Path.{◌≡◌, ◌∙◌, ap}
use mathlib.Core.List.{[], ◌∷◌}
use Prim.Native.Nat.{ℕ}
use native.Mathlib.Omega.{arith}
use Rattle.number.specs.BigEndian.{be}
use Rattle.number.proofs.BigEndian.{found-truncated, found-whole}
use Rattle.number.proofs.Straight.{loaded}
use Rattle.number.proofs.read_u8.Goals as goal

single : (b : ℕ) → b ≡ be (b ∷ [])
unfolding be
single b = omega arith

pub returns-then-s-at : goal.returns-then-s-at
returns-then-s-at c = let a = c.args in found-truncated 1 a.s.now a.at (omega arith)

pub returns : goal.returns
returns c =
    let a = c.args in
    found-whole 1 a.s.now a.at (omega arith) (single _ ∙ ap be (loaded 0 a.at a.s.now (omega arith)))
