-- Messages that agree on their first bytes, and parts of a message. Assumes nothing.
use mathlib.Core.Path.{◌≡◌, refl, sym, ap, ◌∙◌}
use mathlib.Core.List.{List, [], ◌∷◌, ◌++◌}
use Prim.Native.Nat.{ℕ, zero, suc, ◌+◌, ◌≤◌, ◌<◌}
use native.Mathlib.Nat.{zero-add, suc-add, le_trans}
use native.Mathlib.Omega.{arith}
use lib.ListN.{length, take, drop, length-take, length-drop, length-append}
use lib.Seq.{take-take, take-nil, take-add, drop-drop, length-take-le, take-append-le}
use Rattle.layout.specs.Pieces.{Agree}

pub agree_less : {q r : ℕ} {m m' : List ℕ} → q ≤ r → Agree r m m' → Agree q m m'
agree_less {q} {r} {m} {m'} h a =
    record {
      same = sym (take-take q r m h) ∙ ap (take q) a.same ∙ take-take q r m' h;
      fits = le_trans h a.fits;
    }

-- a cut behind q agrees on q bytes
pub agree-take : (q j : ℕ) (m : List ℕ) → q ≤ length m → q ≤ j → Agree q m (take j m)
agree-take q j m h k = record { same = sym (take-take q j m k); fits = omega (arith, length-take j m) }

-- more bytes behind q agree on q bytes
pub agree-append : (q : ℕ) (m more : List ℕ) → q ≤ length m → Agree q m (m ++ more)
agree-append q m more h = record { same = sym (take-append-le q m more h); fits = omega (arith, length-append m more) }

part-of-front : (p w : ℕ) (m : List ℕ) → take w (drop p m) ≡ drop p (take (p + w) m)
part-of-front zero w m = rw zero-add
part-of-front (suc p) w [] = rw (suc-add, take-nil w)
part-of-front (suc p) w (x ∷ xs) = rw suc-add (part-of-front p w xs)

-- a part of the agreed bytes is the same
pub same-part : (p w : ℕ) {m m' : List ℕ} → Agree (p + w) m m' → take w (drop p m) ≡ take w (drop p m')
same-part p w {m} {m'} a = part-of-front p w m ∙ ap (drop p) a.same ∙ sym (part-of-front p w m')

pub part_length : (p w : ℕ) (m : List ℕ) → p + w ≤ length m → length (take w (drop p m)) ≡ w
part_length p w m h = length-take-le w (drop p m) (omega (arith, length-drop p m))

-- two parts side by side are one
pub joined-parts : (m : List ℕ) (p v w : ℕ) → take v (drop p m) ++ take w (drop (p + v) m) ≡ take (v + w) (drop p m)
joined-parts m p v w = rw (take-add v w (drop p m), drop-drop v p m)
