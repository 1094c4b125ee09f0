-- Laws of the entries and of the character that a list begins with. Assumes nothing.
use mathlib.Core.Path.{◌≡◌, refl, sym, ap, ◌∙◌}
use mathlib.Core.Bool.{Bool, true, false, ◌&&◌, ◌||◌, cond}
use mathlib.Core.List.{List, [], ◌∷◌, ◌++◌, Memᴰ}
use Prim.Native.Nat.{ℕ, ◌≤◌, ◌<◌}
use native.Mathlib.Nat.{le_of_suc-le-suc}
use native.Mathlib.Omega.{arith}
use lib.Dec.{leb, ltb}
use lib.ListN.{length}
use borrow.Author.Tests.{leb-true, ltb-true}
use Rattle.text.specs.Utf8.{Range, Entry, entries, inside, inside_one, begins, matches, size, first_size, character}

-- ---- tests

pub never {ℓ} : {A : Type ℓ} → false ≡ true → A
never h = let z : ◌≡◌ {A = ℕ} 0 1 = cc in let none : ⊥ = omega arith in absurd none

and_left : (t u : Bool) → t && u ≡ true → t ≡ true
and_left true u h = refl
and_left false u h = h

and_right : (t u : Bool) → t && u ≡ true → u ≡ true
and_right true u h = h
and_right false u h = never h

-- ---- the entries exclude each other: their first bytes are in ranges that are apart

abbrev apart : Range → Range → Bool
apart r q = ltb r.hi q.lo || ltb q.hi r.lo

abbrev apart_from : Range → List Range → Bool
apart_from r [] = true
apart_from r (q ∷ qs) = apart r q && apart_from r qs

abbrev all_apart : List Range → List Range → Bool
all_apart [] qs = true
all_apart (r ∷ rs) qs = apart_from r qs && all_apart rs qs

abbrev excludes : Entry → List Entry → Bool
excludes e [] = true
excludes e (f ∷ fs) = all_apart e.first f.first && excludes e fs

abbrev exclusive : List Entry → Bool
exclusive [] = true
exclusive (e ∷ es) = excludes e es && exclusive es

not-both : (r q : Range) (b : ℕ) → apart r q ≡ true → inside r b ≡ true → inside q b ≡ false
not-both r q b a h = go (ltb r.hi q.lo) refl (inside q b) refl a
  where
    low : r.lo ≤ b
    low = leb-true r.lo b (and_left (leb r.lo b) (leb b r.hi) h)

    high : b ≤ r.hi
    high = leb-true b r.hi (and_right (leb r.lo b) (leb b r.hi) h)

    go : (t : Bool) → ltb r.hi q.lo ≡ t → (u : Bool) → inside q b ≡ u → t || ltb q.hi r.lo ≡ true → u ≡ false
    go t e false i a = refl
    go true e true i a =
        let l : r.hi < q.lo = ltb-true r.hi q.lo e in
        let m : q.lo ≤ b = leb-true q.lo b (and_left (leb q.lo b) (leb b q.hi) i) in
        let none : ⊥ = omega (arith, high) in
        absurd none
    go false e true i a =
        let l : q.hi < r.lo = ltb-true q.hi r.lo a in
        let m : b ≤ q.hi = leb-true b q.hi (and_right (leb q.lo b) (leb b q.hi) i) in
        let none : ⊥ = omega (arith, low) in
        absurd none

from_all : (r : Range) (qs : List Range) (b : ℕ) → apart_from r qs ≡ true → inside r b ≡ true → inside_one qs b ≡ false
from_all r [] b a h = refl
from_all r (q ∷ qs) b a h =
    rw (not-both r q b (and_left (apart r q) (apart_from r qs) a) h) (from_all r qs b (and_right (apart r q) (apart_from r qs) a) h)

first-apart : (rs qs : List Range) (b : ℕ) → all_apart rs qs ≡ true → inside_one rs b ≡ true → inside_one qs b ≡ false
first-apart [] qs b a h = never h
first-apart (r ∷ rs) qs b a h = go (inside r b) refl h (first-apart rs qs b (and_right (apart_from r qs) (all_apart rs qs) a))
  where
    go : (t : Bool) → inside r b ≡ t → t || inside_one rs b ≡ true → (inside_one rs b ≡ true → inside_one qs b ≡ false) → inside_one qs b ≡ false
    go true i h k = from_all r qs b (and_left (apart_from r qs) (all_apart rs qs) a) i
    go false i h k = k h

matched : (e : Entry) (b : ℕ) (s : List ℕ) → matches e (b ∷ s) ≡ true → inside_one e.first b ≡ true
matched e b s h = and_left (inside_one e.first b) (begins e.rest s) h

not-matched : (e f : Entry) (s : List ℕ) → all_apart e.first f.first ≡ true → matches e s ≡ true → matches f s ≡ true → ⊥
not-matched e f [] a h k = never h
not-matched e f (b ∷ s) a h k = never (sym (first-apart e.first f.first b a (matched e b s h)) ∙ matched f b s k)

excludes-member : (e : Entry) {f : Entry} {es : List Entry} → excludes e es ≡ true → Memᴰ f es → all_apart e.first f.first ≡ true
excludes-member e x (Memᴰ.head {x = g} {xs = es} i) =
    rw i (and_left (all_apart e.first g.first) (excludes e es) x)
excludes-member e x (Memᴰ.tail {x = g} {xs = es} m) =
    excludes-member e (and_right (all_apart e.first g.first) (excludes e es) x) m

-- of the entries that a list begins with a character of, there is one at most
one-alone : {e f : Entry} {es : List Entry} (s : List ℕ) → exclusive es ≡ true → Memᴰ e es → Memᴰ f es
    → matches e s ≡ true → matches f s ≡ true → e ≡ f
one-alone {e} {f} s x (Memᴰ.head i) (Memᴰ.head j) h k = i ∙ sym j
one-alone {e} {f} s x (Memᴰ.head {x = g} {xs = es} i) (Memᴰ.tail m) h k =
    absurd (not-matched g f s (excludes-member g (and_left (excludes g es) (exclusive es) x) m) (rw i at h) k)
one-alone {e} {f} s x (Memᴰ.tail {x = g} {xs = es} m) (Memᴰ.head j) h k =
    absurd (not-matched g e s (excludes-member g (and_left (excludes g es) (exclusive es) x) m) (rw j at k) h)
one-alone {e} {f} s x (Memᴰ.tail {x = g} {xs = es} m) (Memᴰ.tail n) h k =
    one-alone s (and_right (excludes g es) (exclusive es) x) m n h k

pub entries-exclude : {e f : Entry} (s : List ℕ) → Memᴰ e entries → Memᴰ f entries → matches e s ≡ true → matches f s ≡ true → e ≡ f
entries-exclude s m n h k = one-alone s refl m n h k

-- ---- the character that a list begins with

-- an entry that matches is the one whose size is found
found : {e : Entry} {es : List Entry} (s : List ℕ) → exclusive es ≡ true → Memᴰ e es → matches e s ≡ true → first_size es s ≡ size e
found {e} s x (Memᴰ.head i) h = rw (← i, h)
found {e} s x (Memᴰ.tail {x = g} {xs = es} m) h =
    go (matches g s) refl (found s (and_right (excludes g es) (exclusive es) x) m h)
  where
    go : (t : Bool) → matches g s ≡ t → first_size es s ≡ size e → cond t (size g) (first_size es s) ≡ size e
    go true k r = absurd (not-matched g e s (excludes-member g (and_left (excludes g es) (exclusive es) x) m) k h)
    go false k r = r

pub character-found : {e : Entry} (s : List ℕ) → Memᴰ e entries → matches e s ≡ true → character s ≡ size e
unfolding character
character-found s m h = found s refl m h

-- and a size that is found is that of an entry that matches
pub record Begun (es : List Entry) (s : List ℕ) : Type 0 where
  pub entry : Entry
  pub member : Memᴰ entry es
  pub does : matches entry s ≡ true
  pub sized : first_size es s ≡ size entry

begun : (es : List Entry) (s : List ℕ) → 0 < first_size es s → Begun es s
begun [] s p = let none : ⊥ = omega arith in absurd none
begun (e ∷ es) s p = go (matches e s) refl p (begun es s)
  where
    go : (t : Bool) → matches e s ≡ t → 0 < cond t (size e) (first_size es s) → (0 < first_size es s → Begun es s) → Begun (e ∷ es) s
    go true h p r = record { entry = e; member = Memᴰ.head refl; does = h; sized = rw h }
    go false h p r =
        let b : Begun es s = r p in
        record { entry = b.entry; member = Memᴰ.tail b.member; does = b.does; sized = rw h b.sized }

pub character-begun : (s : List ℕ) → 0 < character s → Begun entries s
unfolding character
character-begun s p = begun entries s p

-- ---- what a character's own bytes decide

pub begins-long : (rs : List Range) (s : List ℕ) → begins rs s ≡ true → length rs ≤ length s
begins-long [] s h = omega arith
begins-long (r ∷ rs) [] h = never h
begins-long (r ∷ rs) (b ∷ s) h = let l : length rs ≤ length s = begins-long rs s (and_right (inside r b) (begins rs s) h) in omega arith

pub begins-short : (rs : List Range) (s : List ℕ) → length s < length rs → begins rs s ≡ false
begins-short rs s l = go (begins rs s) refl
  where
    go : (t : Bool) → begins rs s ≡ t → t ≡ false
    go true h = let m : length rs ≤ length s = begins-long rs s h in let none : ⊥ = omega arith in absurd none
    go false h = refl

begins-append : (rs : List Range) (c s : List ℕ) → length rs ≤ length c → begins rs (c ++ s) ≡ begins rs c
begins-append [] c s l = refl
begins-append (r ∷ rs) [] s l = let none : ⊥ = omega arith in absurd none
begins-append (r ∷ rs) (b ∷ c) s l = ap (λ (t : Bool). inside r b && t) (begins-append rs c s (le_of_suc-le-suc l))

pub matches-append : (e : Entry) (c s : List ℕ) → size e ≤ length c → matches e (c ++ s) ≡ matches e c
matches-append e [] s l = let none : ⊥ = omega arith in absurd none
matches-append e (b ∷ c) s l = ap (λ (t : Bool). inside_one e.first b && t) (begins-append e.rest c s (le_of_suc-le-suc l))

pub matches-long : (e : Entry) (s : List ℕ) → matches e s ≡ true → size e ≤ length s
matches-long e [] h = never h
matches-long e (b ∷ s) h = let l : length e.rest ≤ length s = begins-long e.rest s (and_right (inside_one e.first b) (begins e.rest s) h) in omega arith
