-- Two's complement: the upper half of the numbers of w bytes are the negative ones. One definition for every width w, in bytes.
use Rattle.std.specs.Prelude.{ℕ, suc, ◌-◌, ◌/◌, ◌^◌, ◌<◌, cond, ltb, ℤ, pos, negsuc, ◌-ℤ◌}

-- the signed number whose w bytes are those of x
unfoldable pub signed_of : ℕ → ℕ → ℤ
signed_of w x = cond (ltb x (256 ^ w / 2)) (pos x) (pos x -ℤ pos (256 ^ w))

-- the number whose w bytes are those of the signed number; negsuc n is -(n + 1)
unfoldable pub bits_of : ℕ → ℤ → ℕ
bits_of w (pos n) = n
bits_of w (negsuc n) = 256 ^ w - suc n

-- a signed number that w bytes can hold
pub data Signed : ℕ → ℤ → Type 0 where
  not_negative : {w n : ℕ} → n < 256 ^ w / 2 → Signed w (pos n)
  negative : {w n : ℕ} → n < 256 ^ w / 2 → Signed w (negsuc n)
