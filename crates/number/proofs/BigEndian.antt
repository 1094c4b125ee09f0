-- Laws of big-endian numbers, each once over the width. Assumes nothing.
use mathlib.Core.Path.{◌≡◌, refl, sym, ap, ◌∙◌}
use mathlib.Core.Bool.{Bool, true, false, cond}
use mathlib.Core.List.{List, [], ◌∷◌, ◌++◌, append_assoc}
use Prim.Native.Nat.{ℕ, zero, suc, ◌+◌, ◌*◌, ◌/◌, ◌%◌, ◌^◌, ◌≤◌, ◌<◌}
use native.Mathlib.Nat.{pow-suc, pow-succ', add-mul, mul_assoc, add_assoc, zero-mul, mod-eq_of_lt, mod-lt, div-div-eq-div-mul}
use native.Mathlib.Omega.{arith}
use lib.Arith.{mod-mul, digits_div, digits_mod}
use lib.Dec.{leb, lit<}
use lib.ListN.{length, take, drop, length-append, length-drop}
use lib.Seq.{take_at, drop_at, length-take-le}
use borrow.Author.Tests.{le-leb, lt-leb, leb-true}
use Rattle.number.specs.BigEndian.{be, be_after, bytes_of, Bytes, whole, truncated, number_at, overwritten, Stores}

pub pow256 : (w : ℕ) → 0 < 256 ^ w
pow256 zero = lit< tt
pow256 (suc w) = let h : 0 < 256 ^ w = pow256 w in rw pow-suc (omega arith)

pub length-bytes_of : (w x : ℕ) → length (bytes_of w x) ≡ w
unfolding bytes_of
length-bytes_of zero x = refl
length-bytes_of (suc w) x = ap suc (length-bytes_of w x)

pub bytes-bytes_of : (w x : ℕ) → Bytes (bytes_of w x)
unfolding bytes_of
bytes-bytes_of zero x i = lit< tt
bytes-bytes_of (suc w) x zero = mod-lt (x / 256 ^ w) (lit< tt)
bytes-bytes_of (suc w) x (suc i) = bytes-bytes_of w x i

-- ---- number to bytes to number, and bytes to number to bytes

be_after-bytes_of : (w n x : ℕ) → be_after n (bytes_of w x) ≡ n * 256 ^ w + x % 256 ^ w
unfolding bytes_of
be_after-bytes_of zero n x = omega arith
be_after-bytes_of (suc w) n x =
    be_after-bytes_of w (n * 256 + x / 256 ^ w % 256) x
    ∙ rw (pow-succ' 256 w, mod-mul x {m = 256} {c = 256 ^ w} (lit< tt) (pow256 w), add-mul, add_assoc, mul_assoc)

-- the bytes of any number are those of its remainder
pub be-bytes_of-mod : (w x : ℕ) → be (bytes_of w x) ≡ x % 256 ^ w
unfolding be
be-bytes_of-mod w x = be_after-bytes_of w 0 x ∙ rw zero-mul (omega arith)

-- a number that w bytes can hold is read back from its bytes
pub be-bytes_of : (w x : ℕ) → x < 256 ^ w → be (bytes_of w x) ≡ x
be-bytes_of w x h = be-bytes_of-mod w x ∙ mod-eq_of_lt h

be_after-div : (bs : List ℕ) (n : ℕ) → Bytes bs → be_after n bs / 256 ^ length bs ≡ n
be_after-div [] n h = omega arith
be_after-div (b ∷ bs) n h =
    rw (pow-suc 256 (length bs), ← div-div-eq-div-mul, be_after-div bs (n * 256 + b) (λ i. h (suc i)))
    (digits_div n (h 0))

bytes_of-be_after : (bs : List ℕ) (n : ℕ) → Bytes bs → bytes_of (length bs) (be_after n bs) ≡ bs
unfolding bytes_of
bytes_of-be_after [] n h = refl
bytes_of-be_after (b ∷ bs) n h =
    rw (be_after-div bs (n * 256 + b) (λ i. h (suc i)), digits_mod n (h 0), bytes_of-be_after bs (n * 256 + b) (λ i. h (suc i)))

-- bytes are written again from the number that they are
pub bytes_of-be : (bs : List ℕ) → Bytes bs → bytes_of (length bs) (be bs) ≡ bs
unfolding be
bytes_of-be bs h = bytes_of-be_after bs 0 h

-- w bytes are a number below 256 ^ w
pub be-below : (bs : List ℕ) → Bytes bs → be bs < 256 ^ length bs
be-below bs h =
    let e : be bs ≡ be bs % 256 ^ length bs = ap be (sym (bytes_of-be bs h)) ∙ be-bytes_of-mod (length bs) (be bs) in
    rw e (mod-lt (be bs) (pow256 (length bs)))

-- ---- reading, for every list and place

module _ (w : ℕ) (s : List ℕ) (at : ℕ) where
  pub found-truncated : length s < at + w → truncated ≡ number_at w s at
  unfolding number_at
  found-truncated h = rw (lt-leb (at + w) (length s) h)

  pub found-whole : {x : ℕ} → at + w ≤ length s → x ≡ be (take w (drop at s)) → whole x ≡ number_at w s at
  unfolding number_at
  found-whole h e = rw (le-leb (at + w) (length s) h, e)

-- ---- storing

pub length-overwritten : (l : List ℕ) (at : ℕ) (bs : List ℕ) → at + length bs ≤ length l → length (overwritten l at bs) ≡ length l
unfolding overwritten
length-overwritten l at bs h =
    let t : length (take at l) ≡ at = length-take-le at l (omega arith) in
    simp (length-append, length-drop) (omega arith)

-- the part that was overwritten
pub part-overwritten : (l : List ℕ) (at : ℕ) (bs : List ℕ) → at ≤ length l → take (length bs) (drop at (overwritten l at bs)) ≡ bs
unfolding overwritten
part-overwritten l at bs h =
    rw (append_assoc, drop_at (take at l) (bs ++ drop (at + length bs) l) at (length-take-le at l h))
    (take_at bs (drop (at + length bs) l) (length bs) refl)

-- what was stored is what is read there
pub number-overwritten : (w x at : ℕ) (l : List ℕ) → at + w ≤ length l → x < 256 ^ w
    → whole x ≡ number_at w (overwritten l at (bytes_of w x)) at
number-overwritten w x at l h f =
    let size : length (bytes_of w x) ≡ w = length-bytes_of w x in
    let room : at + length (bytes_of w x) ≤ length l = omega arith in
    let after : length (overwritten l at (bytes_of w x)) ≡ length l = length-overwritten l at (bytes_of w x) room in
    let part : take w (drop at (overwritten l at (bytes_of w x))) ≡ bytes_of w x =
    ap (λ (n : ℕ). take n (drop at (overwritten l at (bytes_of w x)))) (sym size) ∙ part-overwritten l at (bytes_of w x) (omega arith) in
    found-whole w (overwritten l at (bytes_of w x)) at (omega arith) (sym (ap be part ∙ be-bytes_of w x f))

-- a number that was found has its bytes
pub whole-fits : (w : ℕ) (s : List ℕ) (at : ℕ) {x : ℕ} → whole x ≡ number_at w s at → (at + w ≤ length s) × (x ≡ be (take w (drop at s)))
unfolding number_at
whole-fits w s at {x} e = go (leb (at + w) (length s)) refl e
  where
    go : (t : Bool) → leb (at + w) (length s) ≡ t → whole x ≡ cond t (whole (be (take w (drop at s)))) truncated → (at + w ≤ length s) × (x ≡ be (take w (drop at s)))
    go true h e = (leb-true (at + w) (length s) h, cc)
    go false h e = let z : ◌≡◌ {A = ℕ} 0 1 = cc in let none : ⊥ = omega arith in absurd none

-- ---- stores

pub stores-none : (w : ℕ) (l : List ℕ) (at x : ℕ) → length l < at + w → Stores w l at x l false
stores-none w l at x h = record { fits = sym (lt-leb (at + w) (length l) h); leaves = refl }

pub stores-all : (w : ℕ) (l : List ℕ) {m : List ℕ} (at x : ℕ) → at + w ≤ length l → m ≡ overwritten l at (bytes_of w x) → Stores w l at x m true
stores-all w l at x h e = record { fits = sym (le-leb (at + w) (length l) h); leaves = e }

-- what was stored had room
pub stored-fits : {w : ℕ} {l m : List ℕ} {at x : ℕ} → Stores w l at x m true → at + w ≤ length l
stored-fits {w} {l} {at = at} s = leb-true (at + w) (length l) (sym s.fits)
