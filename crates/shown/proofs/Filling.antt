-- Laws of a list that is made element by element from the front, and of remainders. Assumes nothing.
use mathlib.Core.Path.{◌≡◌, sym, ◌∙◌, ap}
use mathlib.Core.List.{List}
use Prim.Native.Nat.{ℕ, ◌+◌, ◌*◌, ◌%◌, ◌<◌}
use native.Mathlib.Nat.{add_assoc, add-mul, mul_assoc, div-add-mod, mul-add-mod_self_left}
use native.Mathlib.Numerals.{add-one}
use native.Mathlib.Omega.{arith}
use lib.ListN.{length, take, set}
use lib.Seq.{take_all, take-suc-set}
use Rattle.shown.specs.Cases.{listed}

-- a remainder may be taken before it is taken of the sum
pub reduced : (n m a b : ℕ) → (n % m * a + b) % m ≡ (n * a + b) % m
reduced n m a b =
    sym (ap (λ (k : ℕ). (k * a + b) % m) (sym (div-add-mod n m)) ∙ rw (add-mul, mul_assoc, add_assoc, mul-add-mod_self_left))

module _ {A : Type 0} (f : ℕ → A) where
  pub listed-turn : (l : List A) (i : ℕ) (a : A) → i < length l → a ≡ f i → take i l ≡ listed f i → take (i + 1) (set l i a) ≡ listed f (i + 1)
  unfolding listed
  listed-turn l i a h e k = rw (add-one i) (take-suc-set l i a h ∙ rw (k, e))

  pub listed-done : (l : List A) (i n : ℕ) → i ≡ n → length l ≡ n → take i l ≡ listed f i → l ≡ listed f n
  listed-done l i n e g k = sym (take_all i l (omega arith)) ∙ k ∙ ap (listed f) e
