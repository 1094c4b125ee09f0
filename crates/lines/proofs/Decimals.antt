-- Laws of numbers in decimal. Assumes nothing.
use mathlib.Core.Path.{◌≡◌, refl, sym, ap, ◌∙◌}
use mathlib.Core.Bool.{true, false, cond}
use mathlib.Core.List.{List, [], ◌∷◌, ◌++◌}
use Prim.Native.Nat.{ℕ, zero, suc, ◌+◌, ◌-◌, ◌/◌, ◌%◌, ◌^◌, ◌≤◌, ◌<◌}
use native.Mathlib.Decide.{dec_lt}
use native.Mathlib.Nat.{pow-suc, pow-le-pow_right}
use native.Mathlib.Omega.{arith}
use lib.Dec.{ltb, lit<, lit≤}
use lib.IntN.{ℤ, pos, negsuc}
use lib.ListN.{length, take, length-append}
use lib.Signed.{lt_z}
use mir.Syntax.{w32}
use mir.Val.{SFits, to_z, of_z}
use mir.ValLaws.{to_z-of_z}
use borrow.Author.Tests.{lt-ltb, le-ltb, ltb-true}
use Rattle.io.specs.Counts.{IsPrefixLen}
use Rattle.io.specs.Digits.{hex_digit_ascii, last_digits, IsDigitCount}
use Rattle.number.specs.TwosComplement.{bits_of}
use Rattle.text.specs.Ascii.{ascii}
use Rattle.wire.specs.declared.Cursor.{Cursor}
use Rattle.field_writer.specs.Stored.{Put}
use Rattle.wire.specs.Cursors.{place}
use Rattle.lines.specs.Lines.{places, decimal, most_digits, integer, Begins}
use Rattle.lines.proofs.Adding.{put-begins}

power : {i j : ℕ} → i ≤ j → 10 ^ i ≤ 10 ^ j
power h = pow-le-pow_right (lit< tt) h

below_power : (k : ℕ) → k < 10 ^ k
below_power zero = lit< tt
below_power (suc k) = rw pow-suc (omega (arith, below_power k))

-- ---- the fewest digits

places-are : (f j k n : ℕ) → j ≤ k → k ≤ j + f → n < 10 ^ k → (j < k → 10 ^ (k - 1) ≤ n) → places f j n ≡ k
places-are zero j k n l u h m = omega arith
places-are (suc f) j k n l u h m = go (dec_lt j k) (λ g. places-are f (suc j) k n g (omega arith) h (λ _. m g))
  where
    go : Dec (j < k) → (j < k → places f (suc j) n ≡ k) → cond (ltb n (10 ^ j)) j (places f (suc j) n) ≡ k
    go (yes g) later =
        let p : 10 ^ j ≤ 10 ^ (k - 1) = power (omega arith) in
        rw (le-ltb n (10 ^ j) (omega (arith, m g))) (later g)
    go (no g) later = let e : j ≡ k = omega arith in rw (e, lt-ltb n (10 ^ k) h)

fewest-digits : (n k : ℕ) → IsDigitCount 10 1 n k → last_digits 10 k n ≡ decimal n
unfolding decimal
fewest-digits n k h = ap (λ (j : ℕ). last_digits 10 j n) (sym (places-are n 1 k n h.0 (enough (dec_lt 1 k)) h.1 h.2))
  where
    enough : Dec (1 < k) → k ≤ 1 + n
    enough (yes g) = omega (arith, below_power (k - 1), h.2 g)
    enough (no g) = omega arith

-- ---- lengths

length_digits : (b k n : ℕ) → length (last_digits b k n) ≡ k
length_digits b zero n = refl
length_digits b (suc k) n = omega (arith, length-append (last_digits b k (n / b)) (hex_digit_ascii (n % b) ∷ []), length_digits b k (n / b))

places-below : (f k n j : ℕ) → k ≤ j → n < 10 ^ j → places f k n ≤ j
places-below zero k n j l h = l
places-below (suc f) k n j l h = go (dec_lt n (10 ^ k)) (λ g. places-below f (suc k) n j g h)
  where
    go : Dec (n < 10 ^ k) → (k < j → places f (suc k) n ≤ j) → cond (ltb n (10 ^ k)) k (places f (suc k) n) ≤ j
    go (yes g) later = rw (lt-ltb n (10 ^ k) g) l
    go (no g) later = rw (le-ltb n (10 ^ k) (omega arith)) (later (less (dec_lt k j)))
      where
        less : Dec (k < j) → k < j
        less (yes e) = e
        less (no e) = let p : 10 ^ j ≤ 10 ^ k = power (omega arith) in let none : ⊥ = omega arith in absurd none

-- a number below a power of ten has no more digits
pub decimal-short : (n j : ℕ) → 1 ≤ j → n < 10 ^ j → length (decimal n) ≤ j
unfolding decimal
decimal-short n j l h = omega (arith, length_digits 10 (places n 1 n) n, places-below n 1 n j l h)

-- ---- digits in an array

-- what `io::decimal` promises, in our terms
pub digits-made : (n k : ℕ) (d : List ℕ) → n < 2 ^ 64 → IsPrefixLen k d → IsDigitCount 10 1 n k → take k d ≡ last_digits 10 k n → Begins d (decimal n) k × (k ≤ most_digits)
digits-made n k d l h g e =
    let f : take k d ≡ decimal n = e ∙ fewest-digits n k g in
    (record { is = f; counts = h }, omega (arith, h.1, ap length f, decimal-short n most_digits (lit≤ tt) (omega arith)))

-- ---- a sign

-- the magnitude of a negative number, from its bits
pub negative-text : (z : ℤ) → SFits w32 z → lt_z z (pos 0) ≡ true → ascii "-" ++ decimal (0x1_0000_0000 - bits_of 4 z) ≡ integer z
unfolding bits_of
negative-text (pos n) f t = let none : n < 0 = ltb-true n 0 t in let no_such : ⊥ = omega arith in absurd no_such
negative-text (negsuc n) f t =
    let l : n < 2 ^ 31 = f.sfits in
    let e : 0x1_0000_0000 - (256 ^ 4 - suc n) ≡ suc n = omega arith in
    rw e

pub positive-text : (z : ℤ) → lt_z z (pos 0) ≡ false → decimal (bits_of 4 z) ≡ integer z
unfolding bits_of
positive-text (pos n) t = refl
positive-text (negsuc n) t = let z : ◌≡◌ {A = ℕ} 0 1 = cc in let none : ⊥ = omega arith in absurd none

-- the most bytes of a number of 32 bits: ten digits and a sign
pub integer-short : (z : ℤ) → SFits w32 z → length (integer z) ≤ 11
integer-short (pos n) f = let l : n < 2 ^ 31 = f.sfits in omega (arith, decimal-short n 10 (lit≤ tt) (omega arith))
integer-short (negsuc n) f = let l : n < 2 ^ 31 = f.sfits in omega (arith, decimal-short (suc n) 10 (lit≤ tt) (omega arith))

-- a number of 32 bits, in an array that is long enough for each
pub integer-begins : {l n : List ℕ} {f : Cursor} (z : ℤ) → SFits w32 z → 11 ≤ length l → Put l (place 0) (integer (to_z w32 (of_z w32 z))) n f → Begins n (integer z) f.at
integer-begins z fit long p = put-begins (omega (arith, integer-short z fit)) (rw (to_z-of_z w32 z fit) at p)
