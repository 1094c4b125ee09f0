-- Laws of the checksum: what is left, behind the checksum h so far, gives the whole. Assumes nothing.
use mathlib.Core.Path.{◌≡◌, refl, sym, ◌∙◌}
use mathlib.Core.Bool.{Bool}
use mathlib.Core.List.{List, [], ◌∷◌, ◌++◌, map}
use Prim.Native.Nat.{ℕ, ◌+◌, ◌<◌, ◌≤◌}
use lib.ListN.{length, get_or, drop, drop_of_length-le}
use Rattle.number.specs.BigEndian.{bytes_of, overwritten, Stores}
use Rattle.field_writer.specs.Stored.{concat}
use Rattle.outstanding.proofs.Lists.{from-here}
use Rattle.shown.specs.Checksum.{with_byte, checksum_after}

-- ---- of bytes

module _ (s : List ℕ) (i h : ℕ) where
  pub byte-turn : i < length s → checksum_after (with_byte h (get_or s i 0)) (drop (i + 1) s) ≡ checksum_after h (drop i s)
  byte-turn inside = rw (from-here s i 0 inside)

  pub bytes-done : (n : ℕ) → length s ≤ i → checksum_after h (drop i s) ≡ n → h ≡ n
  bytes-done n past e = rw (drop_of_length-le s past) at e

-- ---- of elements, each as the bytes that b gives

after-append : (h : ℕ) (a c : List ℕ) → checksum_after h (a ++ c) ≡ checksum_after (checksum_after h a) c
after-append h [] c = refl
after-append h (x ∷ a) c = after-append (with_byte h x) a c

module _ {A : Type 0} (b : A → List ℕ) (l : List A) (i h : ℕ) where
  pub element-turn : (d : A) → i < length l → checksum_after (checksum_after h (b (get_or l i d))) (concat (map b (drop (i + 1) l))) ≡ checksum_after h (concat (map b (drop i l)))
  element-turn d inside = sym (after-append h (b (get_or l i d)) (concat (map b (drop (i + 1) l)))) ∙ rw (from-here l i d inside)

  pub elements-done : (n : ℕ) → length l ≤ i → checksum_after h (concat (map b (drop i l))) ≡ n → h ≡ n
  elements-done n past e = rw (drop_of_length-le l past) at e

-- ---- of a number: its bytes fill an array of 4

pub stored : (n : ℕ) (m : List ℕ) (r : Bool) → Stores 4 (0 ∷ 0 ∷ 0 ∷ 0 ∷ []) 0 n m r → m ≡ bytes_of 4 n
unfolding overwritten bytes_of
stored n m r s = s.leaves ∙ rw s.fits
