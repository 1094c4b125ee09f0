-- Laws of two's complement, each once over the width. Assumes nothing.
use mathlib.Core.Path.{◌≡◌, refl, sym, ap, ◌∙◌}
use mathlib.Core.Bool.{Bool, true, false, cond}
use Prim.Native.Nat.{ℕ, zero, suc, ◌+◌, ◌-◌, ◌*◌, ◌/◌, ◌^◌, ◌≤◌, ◌<◌}
use native.Mathlib.Nat.{pow-suc}
use native.Mathlib.Omega.{arith}
use lib.Dec.{T, ltb}
use lib.IntN.{ℤ, pos, negsuc, nat_abs, ◌+ℤ◌, ◌-ℤ◌}
use lib.Signed.{mag, non_neg, lt_z}
use mir.Syntax.{Width}
use mir.Val.{Fits, SFits, to_z, of_z, bits, hbits, sel}
use mir.ValLaws.{pow-bits, to_z_pos, to_z-of_z, of_z-to_z, to_z-Fits, of_z_fits, half_full}
use borrow.Author.Tests.{lt-ltb, le-ltb, ltb-true, ltb-false}
use Rattle.number.specs.TwosComplement.{signed_of, bits_of, Signed, not_negative, negative}

-- ---- over the width in bytes

-- x - m for an x below m
minus : (x m : ℕ) → x < m → pos x -ℤ pos m ≡ negsuc (m - suc x)
minus x zero h = let none : ⊥ = omega arith in absurd none
minus x (suc m) h = rw (lt-ltb x (suc m) h)

-- the numbers of one byte or more are even in number
halves : (w : ℕ) → 0 < w → 256 ^ w ≡ 256 ^ w / 2 * 2
halves zero p = let none : ⊥ = omega arith in absurd none
halves (suc w) p = rw pow-suc (omega arith)

module _ (w : ℕ) where
  -- bits to signed number to bits
  pub bits-signed : (x : ℕ) → x < 256 ^ w → bits_of w (signed_of w x) ≡ x
  unfolding signed_of bits_of
  bits-signed x h = go (ltb x (256 ^ w / 2))
    where
      go : (t : Bool) → bits_of w (cond t (pos x) (pos x -ℤ pos (256 ^ w))) ≡ x
      go true = refl
      go false = rw (minus x (256 ^ w) h) (omega arith)

  -- signed number to bits to signed number
  pub signed-bits : {z : ℤ} → Signed w z → signed_of w (bits_of w z) ≡ z
  unfolding signed_of bits_of
  signed-bits (not_negative {n = n} h) = rw (lt-ltb n (256 ^ w / 2) h)
  signed-bits (negative {n = n} h) =
      let x : ℕ = 256 ^ w - suc n in
      let u : 256 ^ w / 2 ≤ 256 ^ w - suc n = omega arith in
      let l : 256 ^ w - suc n < 256 ^ w = omega arith in
      let r : 256 ^ w - suc (256 ^ w - suc n) ≡ n = omega arith in
      rw (le-ltb (256 ^ w - suc n) (256 ^ w / 2) u, minus (256 ^ w - suc n) (256 ^ w) l, r)

  pub bits_below : {z : ℤ} → Signed w z → bits_of w z < 256 ^ w
  unfolding bits_of
  bits_below (not_negative h) = omega arith
  bits_below (negative h) = omega arith

  pub signed-fits : 0 < w → (x : ℕ) → x < 256 ^ w → Signed w (signed_of w x)
  unfolding signed_of
  signed-fits p x h = go (ltb x (256 ^ w / 2)) refl
    where
      even : 256 ^ w ≡ 256 ^ w / 2 * 2
      even = halves w p

      go : (t : Bool) → ltb x (256 ^ w / 2) ≡ t → Signed w (cond t (pos x) (pos x -ℤ pos (256 ^ w)))
      go true e = not_negative (ltb-true x (256 ^ w / 2) e)
      go false e =
          let u : 256 ^ w / 2 ≤ x = ltb-false x (256 ^ w / 2) e in
          let l : 256 ^ w - suc x < 256 ^ w / 2 = omega (arith, even) in
          rw (minus x (256 ^ w) h) (negative l)

-- ---- the machine's own signed numbers: of a width w of the machine and n bytes with as many numbers

sel-cond : (t : Bool) (x y z : ℤ) → y ≡ z → sel t x y ≡ cond t x z
sel-cond true x y z e = refl
sel-cond false x y z e = e

module _ (w : Width) (n : ℕ) (e : 2 ^ bits w ≡ 256 ^ n) where
  half : 2 ^ hbits w ≡ 256 ^ n / 2
  half = omega (arith, pow-bits w)

  pub machine-signed : (x : ℕ) → Fits w x → to_z w x ≡ signed_of n x
  unfolding signed_of
  machine-signed x f =
      rw (← half, ← e)
      (sel-cond (ltb x (2 ^ hbits w)) (pos x) (negsuc (2 ^ bits w - suc x)) (pos x -ℤ pos (2 ^ bits w)) (sym (minus x (2 ^ bits w) f.fits)))

  pub machine-bits : (z : ℤ) → of_z w z ≡ bits_of n z
  unfolding bits_of
  machine-bits (pos x) = refl
  machine-bits (negsuc x) = ap (λ (m : ℕ). m - suc x) e

  pub machine-fits : (z : ℤ) → SFits w z → Signed n z
  machine-fits (pos x) f = not_negative (rw half at f.sfits)
  machine-fits (negsuc x) f = negative (rw half at f.sfits)

  -- What the code leaves to show. `k` is the greatest signed number, so that -(k + 1) is the least.
  module _ (k : ℕ) (g : suc k ≡ 2 ^ hbits w) where
    -- the upper half of the bits: k + 1 taken away, then the least number added
    lowered : (x : ℕ) → Fits w x → suc k ≤ x → to_z w (x - suc k) +ℤ negsuc k ≡ to_z w x
    lowered x f h =
        let p : 2 ^ bits w ≡ 2 ^ hbits w * 2 = pow-bits w in
        let l : x < 2 ^ bits w = f.fits in
        let s : x - suc k < suc k = omega arith in
        let d : x - suc k < 2 ^ hbits w = omega arith in
        let u : 2 ^ hbits w ≤ x = omega arith in
        let r : suc k - suc (x - suc k) ≡ 2 ^ bits w - suc x = omega arith in
        rw (to_z_pos w (x - suc k) d, lt-ltb (x - suc k) (suc k) s, le-ltb x (2 ^ hbits w) u) (ap negsuc r)

    pub lowered-fits : (x : ℕ) → Fits w x → suc k ≤ x → SFits w (to_z w (x - suc k) +ℤ negsuc k)
    lowered-fits x f h = rw (lowered x f h) (to_z-Fits w x f)

    pub lowered_is : (x : ℕ) → Fits w x → suc k ≤ x → to_z w (of_z w (to_z w (x - suc k) +ℤ negsuc k)) ≡ signed_of n x
    lowered_is x f h = rw (lowered x f h, of_z-to_z w x f) (machine-signed x f)

    -- a negative number: the least number taken away, then k + 1 added
    raised : (z : ℤ) → lt_z z (pos 0) ≡ true → SFits w z → z -ℤ negsuc k ≡ pos (k - mag z)
    raised (pos x) t f = let none : x < 0 = ltb-true x 0 t in let no_such : ⊥ = omega arith in absurd no_such
    raised (negsuc x) t f =
        let l : x < 2 ^ hbits w = f.sfits in
        let u : suc x ≤ suc k = omega arith in
        let r : suc k - suc x ≡ k - x = omega arith in
        rw (le-ltb (suc k) (suc x) u) (ap pos r)

    raised-bits : (z : ℤ) → lt_z z (pos 0) ≡ true → SFits w z → k - mag z + suc k ≡ of_z w z
    raised-bits (pos x) t f = let none : x < 0 = ltb-true x 0 t in let no_such : ⊥ = omega arith in absurd no_such
    raised-bits (negsuc x) t f =
        let p : 2 ^ bits w ≡ 2 ^ hbits w * 2 = pow-bits w in
        let l : x < 2 ^ hbits w = f.sfits in
        omega arith

    module _ (z : ℤ) (f : SFits w z) (t : lt_z (to_z w (of_z w z)) (pos 0) ≡ true) where
      less : k - mag z < 2 ^ hbits w
      less = omega arith

      test : lt_z z (pos 0) ≡ true
      test = rw (to_z-of_z w z f) at t

      pub difference-fits : SFits w (to_z w (of_z w z) -ℤ negsuc k)
      difference-fits = rw (to_z-of_z w z f, raised z test f) (record { sfits = less })

      difference : to_z w (of_z w (to_z w (of_z w z) -ℤ negsuc k)) ≡ pos (k - mag z)
      difference = rw (to_z-of_z w z f, raised z test f, to_z_pos w (k - mag z) less)

      pub difference-casts : T (non_neg (to_z w (of_z w (to_z w (of_z w z) -ℤ negsuc k)))) × Fits w (nat_abs (to_z w (of_z w (to_z w (of_z w z) -ℤ negsuc k))))
      difference-casts = rw difference (tt, record { fits = half_full w less })

      pub raised-fits : Fits w (nat_abs (to_z w (of_z w (to_z w (of_z w z) -ℤ negsuc k))) + suc k)
      raised-fits = rw (difference, raised-bits z test f) (of_z_fits w z f)

      pub raised_is : nat_abs (to_z w (of_z w (to_z w (of_z w z) -ℤ negsuc k))) + suc k ≡ bits_of n z
      raised_is = rw (difference, raised-bits z test f) (machine-bits z)

  -- a number that is not negative keeps its bits
  kept : (z : ℤ) → lt_z z (pos 0) ≡ false → SFits w z → T (non_neg z) × Fits w (nat_abs z) × (nat_abs z ≡ of_z w z)
  kept (pos x) t f = (tt, record { fits = half_full w f.sfits }, refl)
  kept (negsuc x) t f = let z : ◌≡◌ {A = ℕ} 0 1 = cc in let none : ⊥ = omega arith in absurd none

  module _ (z : ℤ) (f : SFits w z) (t : lt_z (to_z w (of_z w z)) (pos 0) ≡ false) where
    kept-z : T (non_neg z) × Fits w (nat_abs z) × (nat_abs z ≡ of_z w z)
    kept-z = kept z (rw (to_z-of_z w z f) at t) f

    pub kept-casts : T (non_neg (to_z w (of_z w z))) × Fits w (nat_abs (to_z w (of_z w z)))
    kept-casts = rw (to_z-of_z w z f) (kept-z.0, kept-z.1)

    pub kept-is : nat_abs (to_z w (of_z w z)) ≡ bits_of n z
    kept-is = rw (to_z-of_z w z f) (kept-z.2 ∙ machine-bits z)
