-- Tables as maps: what entering and removing do to the map, for tables of any length. Assumes nothing.
use mathlib.Core.Path.{◌≡◌, refl, sym, ◌∙◌, ap}
use mathlib.Core.Bool.{Bool, true, false, not, cond, ◌||◌}
use mathlib.Core.List.{List, [], ◌∷◌, map}
use mathlib.Core.Option.{Option, none, some}
use Prim.Native.Nat.{ℕ, suc, ◌≤◌}
use native.Mathlib.Omega.{arith}
use lib.Dec.{eqb, ltb, leb-suc-suc}
use lib.ListN.{length}
use borrow.Author.Tests.{eqb-true, eqb-false, ne_eqb, lt-ltb}
use Rattle.outstanding_records.specs.declared.Request.{Request}
use Rattle.outstanding_records.specs.declared.Record.{Record}
use Rattle.outstanding_records.specs.declared.Record.TheVariants.{Free, Held}
use Rattle.outstanding.specs.Records.{is_free, holds_id, same_id, any, replace, distinct, lookup, ids, is_in, once, is_some}
use Rattle.layout.proofs.Tests.{apart, and_both}
use Rattle.outstanding.proofs.Bools.{not_so, swap}
use Rattle.outstanding.proofs.Lists.{none_in, any-replace, replaced-any}

-- ---- no id is held twice, by the head

pub rest-distinct : (r : Record) (l : List Record) → distinct (r ∷ l) ≡ true → distinct l ≡ true
rest-distinct r l d = (and_both (not (any (same_id r) l)) (distinct l) d).1

pub head-alone : (i : ℕ) (q : Request) (l : List Record) → distinct (Held i q ∷ l) ≡ true → any (holds_id i) l ≡ false
head-alone i q l d = not_so _ (and_both (not (any (holds_id i) l)) (distinct l) d).0

-- a free record repeats no id
pub free-alone : (l : List Record) → any (same_id Free) l ≡ false
free-alone [] = refl
free-alone (r ∷ l) = free-alone l

-- ids that differ are not both the id asked for
ids-differ : (a i j : ℕ) → eqb a i ≡ false → eqb a j ≡ true → eqb i j ≡ true → ⊥
ids-differ a i j n p q = eqb-false a i n (eqb-true a j p ∙ sym (eqb-true i j q))

pub other_way : (i j : ℕ) → eqb i j ≡ false → eqb j i ≡ false
other_way i j n = ne_eqb j i (λ h. eqb-false i j n (sym h))

-- ---- what the map has

pub lookup_absent : (l : List Record) (i : ℕ) → any (holds_id i) l ≡ false → lookup l i ≡ none
lookup_absent [] i e = refl
lookup_absent (Free ∷ l) i e = lookup_absent l i e
lookup_absent (Held j q ∷ l) i e = rw (none_in (holds_id i) (Held j q) l e).0 (lookup_absent l i (none_in (holds_id i) (Held j q) l e).1)

-- an emptied table has nothing
pub lookup-cleared : (l : List Record) (i : ℕ) → lookup (map (λ r. Free) l) i ≡ none
lookup-cleared [] i = refl
lookup-cleared (r ∷ l) i = lookup-cleared l i

pub ids-cleared : (l : List Record) → ids (map (λ r. Free) l) ≡ []
ids-cleared [] = refl
ids-cleared (r ∷ l) = ids-cleared l

-- an id that is not held goes into a free record: the map has it, and all else as before
pub lookup-entered : (l : List Record) (i : ℕ) (q : Request) (j : ℕ) → any is_free l ≡ true → any (holds_id i) l ≡ false
    → lookup (replace is_free (Held i q) l) j ≡ cond (eqb i j) (some q) (lookup l j)
lookup-entered [] i q j f n = apart f
lookup-entered (Free ∷ l) i q j f n = refl
lookup-entered (Held a b ∷ l) i q j f n =
    ap (λ (o : Option Request). cond (eqb a j) (some b) o) (lookup-entered l i q j f (none_in (holds_id i) (Held a b) l n).1)
    ∙ swap (eqb a j) (eqb i j) _ _ _ (ids-differ a i j (none_in (holds_id i) (Held a b) l n).0)

-- removing takes the id out of the map, and leaves all else as it was
pub lookup-removed : (l : List Record) (i j : ℕ) → distinct l ≡ true → lookup (replace (holds_id i) Free l) j ≡ cond (eqb i j) none (lookup l j)
lookup-removed [] i j d = same (eqb i j)
  where
    same : (b : Bool) → ◌≡◌ {A = Option Request} none (cond b none none)
    same true = refl
    same false = refl
lookup-removed (Free ∷ l) i j d = lookup-removed l i j (rest-distinct Free l d)
lookup-removed (Held a b ∷ l) i j d = by (eqb a i) refl (lookup-removed l i j (rest-distinct (Held a b) l d))
  where
    gone : (q : Bool) → a ≡ i → eqb i j ≡ q → lookup l j ≡ cond q none (cond (eqb a j) (some b) (lookup l j))
    gone true e g = ap (lookup l) (sym (e ∙ eqb-true i j g)) ∙ lookup_absent l a (head-alone a b l d)
    gone false e g = rw (ne_eqb a j (λ h. eqb-false i j g (sym e ∙ h)))

    by : (q : Bool) → eqb a i ≡ q → lookup (replace (holds_id i) Free l) j ≡ cond (eqb i j) none (lookup l j)
        → lookup (cond q (Free ∷ l) (Held a b ∷ replace (holds_id i) Free l)) j ≡ cond (eqb i j) none (cond (eqb a j) (some b) (lookup l j))
    by true e h = gone (eqb i j) (eqb-true a i e) refl
    by false e h = ap (λ (o : Option Request). cond (eqb a j) (some b) o) h ∙ swap (eqb a j) (eqb i j) _ _ _ (ids-differ a i j e)

-- removals of two ids may be made in either order: the records are the same
pub remove-swap : (l : List Record) (i j : ℕ) → eqb i j ≡ false → replace (holds_id j) Free (replace (holds_id i) Free l) ≡ replace (holds_id i) Free (replace (holds_id j) Free l)
remove-swap [] i j n = refl
remove-swap (Free ∷ l) i j n = ap (λ (t : List Record). Free ∷ t) (remove-swap l i j n)
remove-swap (Held a b ∷ l) i j n = by (eqb a i) (eqb a j) refl refl (remove-swap l i j n)
  where
    by : (p q : Bool) → eqb a i ≡ p → eqb a j ≡ q → replace (holds_id j) Free (replace (holds_id i) Free l) ≡ replace (holds_id i) Free (replace (holds_id j) Free l)
        → replace (holds_id j) Free (cond p (Free ∷ l) (Held a b ∷ replace (holds_id i) Free l)) ≡ replace (holds_id i) Free (cond q (Free ∷ l) (Held a b ∷ replace (holds_id j) Free l))
    by true true e g h = absurd (eqb-false i j n (sym (eqb-true a i e) ∙ eqb-true a j g))
    by true false e g h = rw e
    by false true e g h = rw g
    by false false e g h = rw (e, g) (ap (λ (t : List Record). Held a b ∷ t) h)

-- ---- no id is held twice afterwards

pub distinct-cleared : (l : List Record) → distinct (map (λ r. Free) l) ≡ true
distinct-cleared [] = refl
distinct-cleared (r ∷ l) = rw (free-alone (map (λ (x : Record). Free) l)) (distinct-cleared l)

pub distinct-entered : (l : List Record) (i : ℕ) (q : Request) → any (holds_id i) l ≡ false → distinct l ≡ true → distinct (replace is_free (Held i q) l) ≡ true
distinct-entered [] i q n d = refl
distinct-entered (Free ∷ l) i q n d = rw n (rest-distinct Free l d)
distinct-entered (Held a b ∷ l) i q n d =
    let e : any (holds_id a) (replace is_free (Held i q) l) ≡ false = any-replace (holds_id a) is_free (Held i q) l (other_way a i (none_in (holds_id i) (Held a b) l n).0) (head-alone a b l d) in
    rw e (distinct-entered l i q (none_in (holds_id i) (Held a b) l n).1 (rest-distinct (Held a b) l d))

pub distinct-removed : (l : List Record) (i : ℕ) → distinct l ≡ true → distinct (replace (holds_id i) Free l) ≡ true
distinct-removed [] i d = refl
distinct-removed (Free ∷ l) i d = rw (free-alone (replace (holds_id i) Free l)) (distinct-removed l i (rest-distinct Free l d))
distinct-removed (Held a b ∷ l) i d = by (eqb a i) (distinct-removed l i (rest-distinct (Held a b) l d))
  where
    by : (q : Bool) → distinct (replace (holds_id i) Free l) ≡ true → distinct (cond q (Free ∷ l) (Held a b ∷ replace (holds_id i) Free l)) ≡ true
    by true h = rw (free-alone l) (rest-distinct (Held a b) l d)
    by false h = rw (any-replace (holds_id a) (holds_id i) Free l refl (head-alone a b l d)) h

-- ---- the ids are the map's domain, each once

pub held-some : (l : List Record) (i : ℕ) → any (holds_id i) l ≡ is_some (lookup l i)
held-some [] i = refl
held-some (Free ∷ l) i = held-some l i
held-some (Held j q ∷ l) i = by (eqb j i) (held-some l i)
  where
    by : (b : Bool) → any (holds_id i) l ≡ is_some (lookup l i) → (b || any (holds_id i) l) ≡ is_some (cond b (some q) (lookup l i))
    by true e = refl
    by false e = e

pub held_in : (l : List Record) (i : ℕ) → is_in i (ids l) ≡ any (holds_id i) l
held_in [] i = refl
held_in (Free ∷ l) i = held_in l i
held_in (Held j q ∷ l) i = ap (λ (b : Bool). eqb j i || b) (held_in l i)

pub ids-once : (l : List Record) → distinct l ≡ true → once (ids l) ≡ true
ids-once [] d = refl
ids-once (Free ∷ l) d = ids-once l (rest-distinct Free l d)
ids-once (Held i q ∷ l) d = rw (held_in l i, head-alone i q l d) (ids-once l (rest-distinct (Held i q) l d))

pub ids-most : (l : List Record) → length (ids l) ≤ length l
ids-most [] = omega arith
ids-most (Free ∷ l) = let e : length (ids l) ≤ length l = ids-most l in omega arith
ids-most (Held i q ∷ l) = let e : length (ids l) ≤ length l = ids-most l in omega arith

-- ---- a removed record is free

pub removed-free : (l : List Record) (i : ℕ) → any (holds_id i) l ≡ true → any is_free (replace (holds_id i) Free l) ≡ true
removed-free l i h = replaced-any (holds_id i) is_free Free l refl h

-- a record is free exactly where the ids are fewer than the records
pub free-left : (l : List Record) → ltb (length (ids l)) (length l) ≡ any is_free l
free-left [] = refl
free-left (Free ∷ l) = lt-ltb (length (ids l)) (suc (length l)) (omega (arith, ids-most l))
free-left (Held i q ∷ l) = leb-suc-suc (suc (length (ids l))) (length l) ∙ free-left l
