-- Tests: what an answer of two tests says of each. Assumes nothing.
use mathlib.Core.Path.{◌≡◌, refl, sym}
use mathlib.Core.Bool.{Bool, true, false, not, cond, ◌||◌}
use Rattle.layout.proofs.Tests.{apart}

pub neither : (a b : Bool) → (a || b) ≡ false → (a ≡ false) × (b ≡ false)
neither true b e = apart (sym e)
neither false b e = (refl, e)

pub not_so : (a : Bool) → not a ≡ true → a ≡ false
not_so true e = apart e
not_so false e = refl

-- two tests that exclude each other may be made in either order
pub swap : {A : Type 0} (p q : Bool) (x y z : A) → (p ≡ true → q ≡ true → ⊥) → cond p x (cond q y z) ≡ cond q y (cond p x z)
swap true true x y z h = absurd (h refl refl)
swap true false x y z h = refl
swap false true x y z h = refl
swap false false x y z h = refl
