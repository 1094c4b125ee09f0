-- Names of a message taken one after another, as loops take them. Assumes nothing.
use mathlib.Core.Path.{◌≡◌, refl, sym, ap, ap₂, ◌∙◌}
use mathlib.Core.Bool.{true, false}
use mathlib.Core.List.{List, [], ◌∷◌, map}
use Prim.Native.Nat.{ℕ, zero, suc, ◌+◌, ◌-◌, ◌≤◌, ◌<◌}
use native.Mathlib.Omega.{arith}
use lib.ListN.{length, length-append}
use borrow.Author.Tests.{le-leb, lt-leb}
use Rattle.number.specs.BigEndian.{whole, truncated, number_at}
use Rattle.layout.specs.Values.{Part, part, bytes_in}
use Rattle.layout.specs.Reading.{Outcome, got, fail, any_bytes, num_at, run_at, bytes_at}
use Rattle.layout.specs.Names.{position, stepped, step, gather, steps}
use Rattle.layout.specs.Writing.{sum}
use Rattle.layout.proofs.Tests.{apart}
use Rattle.layout.proofs.Agreement.{part_length}
use Rattle.layout.proofs.Trace.{SizedHere, sized-here, sized-traced}
use Rattle.layout.proofs.Iterating.{stays-ended}
use Rattle.field_writer.specs.Stored.{concat}
use Rattle.readdir_writer.specs.declared.Next.TheVariants.{Name, End}
use Rattle.readdir_writer.specs.Collecting.{next_of, sizes, joined}

-- ---- one name

-- a length that was not found, or was found, at p
module _ (m : List ℕ) (p : ℕ) where
  pub no_length : truncated ≡ number_at 4 m p → End ≡ next_of (bytes_at m p)
  unfolding num_at
  no_length e = rw (← e)

  module _ {n : ℕ} (e : whole n ≡ number_at 4 m p) where
    pub name-outside : length m < p + 4 + n → End ≡ next_of (bytes_at m p)
    unfolding num_at run_at
    name-outside l = rw (← e, lt-leb (p + 4 + n) (length m) l)

    pub name-inside : p + 4 + n ≤ length m → Name (p + 4) n ≡ next_of (bytes_at m p)
    unfolding num_at run_at
    name-inside l = rw (← e, le-leb (p + 4 + n) (length m) l)

-- the name x stands at p, inside the message, and the next begins at q
pub record NameHere (m : List ℕ) (p : ℕ) (x : Part) (q : ℕ) : Type 0 where
  pub is : bytes_at m p ≡ got x q
  pub here : SizedHere any_bytes m p x
  pub begins : x.start ≡ p + 4
  pub fits : x.start + x.size ≤ length m
  pub behind : q ≡ x.start + x.size

pub name-here : (m : List ℕ) (p : ℕ) {x : Part} {q : ℕ} → bytes_at m p ≡ got x q → NameHere m p x q
name-here m p {x} {q} e = let t = sized-traced e in from t.0 t.1 e
  where
    from : {y : Part} → SizedHere any_bytes m p y → q ≡ p + 4 + y.size → bytes_at m p ≡ got y q → NameHere m p y q
    from (sized-here h r) at is = record { is = is; here = sized-here h r; begins = refl; fits = r.fits; behind = at }

-- the next name as the code has it
pub name-given : (m : List ℕ) (p : ℕ) {s n : ℕ} → Name s n ≡ next_of (bytes_at m p) → NameHere m p (part s n) (s + n)
name-given m p {s} {n} e = go (bytes_at m p) refl e
  where
    go : (o : Outcome Part) → bytes_at m p ≡ o → Name s n ≡ next_of o → NameHere m p (part s n) (s + n)
    go (got x q) f e =
        let h = name-here m p f in
        let a : s ≡ x.start = cc in
        let b : n ≡ x.size = cc in
        let c : s + n ≡ q = omega arith in
        let same : x ≡ part s n = λ i. part (sym a i) (sym b i) in
        name-here m p (f ∙ (λ i. got (same i) (sym c i)))
    go (fail c r) f e = let z : false ≡ true = cc in apart z

-- ---- the names from a place on

-- as many as are left, where the next begins at p
abbrev pub names_on : List ℕ → ℕ → ℕ → List Part
names_on m p left = steps left m (position p left)

pub names-next : {m : List ℕ} {p : ℕ} {x : Part} {q : ℕ} (left : ℕ) → NameHere m p x q → 0 < left → names_on m p left ≡ x ∷ names_on m q (left - 1)
unfolding step
names-next {m} {p} left h l = let e : left ≡ suc (left - 1) = omega arith in ap (λ (k : ℕ). names_on m p k) e ∙ rw h.is

pub names-none : (m : List ℕ) (p left : ℕ) → left ≤ 0 → names_on m p left ≡ []
names-none m p left h = let e : left ≡ 0 = omega arith in ap (λ (k : ℕ). names_on m p k) e

-- where no name stands the iterator stays
steps-ended : (n : ℕ) (m : List ℕ) (p left : ℕ) → End ≡ next_of (bytes_at m p) → steps n m (position p left) ≡ []
unfolding step
steps-ended zero m p left h = refl
steps-ended (suc n) m p zero h = stays-ended n m p
steps-ended (suc n) m p (suc left) h = go (bytes_at m p) h (steps-ended n m p (suc left) h)
  where
    go : (o : Outcome Part) → End ≡ next_of o → steps n m (position p (suc left)) ≡ []
        → gather (stepped (position p (suc left)) left o) (λ x v. x ∷ steps n m v) (λ v. steps n m v) ≡ []
    go (got x q) h i = let z : false ≡ true = cc in apart z
    go (fail c r) h i = i

pub names-ended : (m : List ℕ) (p left : ℕ) → End ≡ next_of (bytes_at m p) → names_on m p left ≡ []
names-ended m p left h = steps-ended left m p left h

-- each lies inside the message, so its size is the number of its bytes
pub sizes-are : (n : ℕ) (m : List ℕ) (p left : ℕ) → let xs = steps n m (position p left) in sizes xs ≡ map length (map (bytes_in m) xs)
unfolding step
sizes-are zero m p left = refl
sizes-are (suc n) m p zero = sizes-are n m p zero
sizes-are (suc n) m p (suc left) = go (bytes_at m p) refl (sizes-are n m p (suc left)) (λ q. sizes-are n m q left)
  where
    go : (o : Outcome Part) → bytes_at m p ≡ o
        → (let xs = steps n m (position p (suc left)) in sizes xs ≡ map length (map (bytes_in m) xs))
        → ((q : ℕ) → let xs = steps n m (position q left) in sizes xs ≡ map length (map (bytes_in m) xs))
        → (let xs = gather (stepped (position p (suc left)) left o) (λ x v. x ∷ steps n m v) (λ v. steps n m v) in sizes xs ≡ map length (map (bytes_in m) xs))
    go (got x q) e i j = ap₂ ◌∷◌ (sym (part_length x.start x.size m (name-here m p e).fits)) (j q)
    go (fail c r) e i j = i

sum-lengths : (ss : List (List ℕ)) → sum (map length ss) ≡ length (concat ss)
sum-lengths [] = refl
sum-lengths (s ∷ ss) = ap (λ (k : ℕ). length s + k) (sum-lengths ss) ∙ sym (length-append s (concat ss))

-- and their bytes are as many as the lengths sum to
pub joined_length : (m : List ℕ) (p left : ℕ) → sum (sizes (names_on m p left)) ≡ length (joined m (names_on m p left))
joined_length m p left = ap sum (sizes-are left m p left) ∙ sum-lengths (map (bytes_in m) (names_on m p left))
