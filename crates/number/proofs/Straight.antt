-- Straight-line code that reads or stores one byte after another, as the list that it reads or leaves. Once over the number of
-- bytes; each width cites it. Assumes nothing.
use mathlib.Core.Path.{◌≡◌, refl, ap, ◌∙◌}
use mathlib.Core.List.{List, [], ◌∷◌}
use Prim.Native.Nat.{ℕ, zero, suc, ◌+◌, ◌≤◌}
use native.Mathlib.Omega.{arith}
use lib.ListN.{length, get_or, take, drop, set}
use lib.Seq.{drop-cons, sets, sets-eq}
use Rattle.number.specs.BigEndian.{overwritten}

-- the n elements s[at + k], s[at + (k + 1)], ..
abbrev pub loads : ℕ → ℕ → ℕ → List ℕ → List ℕ
loads zero at k s = []
loads (suc n) at k s = get_or s (at + k) 0 ∷ loads n at (k + 1) s

loads-are : (n at k : ℕ) (s : List ℕ) → at + k + n ≤ length s → loads n at k s ≡ take n (drop (at + k) s)
loads-are zero at k s h = refl
loads-are (suc n) at k s h =
    let e : at + (k + 1) ≡ suc (at + k) = omega arith in
    rw (drop-cons s (at + k) 0 (omega arith))
    (ap (λ (r : List ℕ). get_or s (at + k) 0 ∷ r)
    (loads-are n at (k + 1) s (omega arith) ∙ ap (λ (i : ℕ). take n (drop i s)) e))

-- s[at], s[at + 1], .. are a part of the list
pub loaded : (n at : ℕ) (s : List ℕ) → at + suc n ≤ length s → get_or s at 0 ∷ loads n at 1 s ≡ take (suc n) (drop at s)
loaded n at s h =
    let e : at + 1 ≡ suc at = omega arith in
    rw (drop-cons s at 0 (omega arith))
    (ap (λ (r : List ℕ). get_or s at 0 ∷ r) (loads-are n at 1 s (omega arith) ∙ ap (λ (i : ℕ). take n (drop i s)) e))

-- the list after l[at + k] = v, l[at + (k + 1)] = ..
abbrev pub stores : List ℕ → ℕ → ℕ → List ℕ → List ℕ
stores l at k [] = l
stores l at k (v ∷ vs) = stores (set l (at + k) v) at (k + 1) vs

stores-are : (vs l : List ℕ) (at k : ℕ) → stores l at k vs ≡ sets l (at + k) vs
stores-are [] l at k = refl
stores-are (v ∷ vs) l at k =
    let e : at + (k + 1) ≡ suc (at + k) = omega arith in
    stores-are vs (set l (at + k) v) at (k + 1) ∙ ap (λ (i : ℕ). sets (set l (at + k) v) i vs) e

-- l[at] = v, l[at + 1] = .. overwrite a part of the list
pub stored : (v : ℕ) (vs l : List ℕ) (at : ℕ) → at + suc (length vs) ≤ length l
    → stores (set l at v) at 1 vs ≡ overwritten l at (v ∷ vs)
unfolding overwritten
stored v vs l at h =
    let e : at + 1 ≡ suc at = omega arith in
    stores-are vs (set l at v) at 1 ∙ ap (λ (i : ℕ). sets (set l at v) i vs) e ∙ sets-eq (v ∷ vs) l at h
