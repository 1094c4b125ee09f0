-- Lists of anything: where the first that is so stands, and what replacing it keeps. Assumes nothing.
use mathlib.Core.Path.{◌≡◌, refl, sym, ◌∙◌, ap}
use mathlib.Core.Bool.{Bool, true, false, cond, ◌||◌}
use mathlib.Core.List.{List, [], ◌∷◌, map}
use Prim.Native.Nat.{ℕ, suc, ◌+◌, ◌<◌}
use native.Mathlib.Numerals.{add-one, one-add}
use native.Mathlib.Omega.{arith}
use lib.Dec.{ltb, leb-suc-suc}
use lib.ListN.{length, get_or, set, drop}
use lib.Seq.{drop-cons}
use borrow.Author.Tests.{lt-ltb}
use Rattle.std.specs.Prelude.{position, Some, None}
use Rattle.std.specs.List.{position_or_len}
use Rattle.std.specs.Option.{is_some}
use Rattle.std.proofs.lemmas.List.Recursion.{is_position_or_len}
use Rattle.outstanding.specs.Records.{any, all, replace, first}
use Rattle.layout.proofs.Tests.{and_both}
use Rattle.outstanding.proofs.Bools.{neither}

-- ---- a list, by its head

pub none_in : {A : Type 0} (p : A → Bool) (x : A) (l : List A) → any p (x ∷ l) ≡ false → (p x ≡ false) × (any p l ≡ false)
none_in p x l e = neither (p x) (any p l) e

pub all_in : {A : Type 0} (p : A → Bool) (x : A) (l : List A) → all p (x ∷ l) ≡ true → (p x ≡ true) × (all p l ≡ true)
all_in p x l e = and_both (p x) (all p l) e

-- ---- a list, from i on: the element there, and the rest

module _ {A : Type 0} (l : List A) (i : ℕ) (d : A) (h : i < length l) where
  pub from-here : drop i l ≡ get_or l i d ∷ drop (i + 1) l
  from-here = drop-cons l i d h ∙ ap (λ (k : ℕ). get_or l i d ∷ drop k l) (sym (add-one i))

-- ---- the first that is so stands inside exactly where there is one

pub first_any : {A : Type 0} (p : A → Bool) (l : List A) → ltb (first p l) (length l) ≡ any p l
first_any p [] = refl
first_any p (x ∷ l) = by (p x) (first_any p l)
  where
    by : (b : Bool) → ltb (first p l) (length l) ≡ any p l → ltb (cond b 0 (suc (first p l))) (suc (length l)) ≡ (b || any p l)
    by true e = lt-ltb 0 (suc (length l)) (omega arith)
    by false e = leb-suc-suc (suc (first p l)) (length l) ∙ e

-- ---- what `position` finds

module _ {A : Type 0} (p : A → Bool) where
  first-position : (l : List A) → first p l ≡ position_or_len p l
  first-position = is_position_or_len (first p) p refl (λ x l. ap (cond (p x) 0) (sym (one-add (first p l))))

  position-any : (l : List A) → position p l ≡ cond (any p l) (Some (first p l)) None
  position-any l = rw (sym (first-position l), first_any p l)

  pub some-any : (l : List A) → is_some (position p l) ≡ any p l
  some-any l = rw (position-any l) (by (any p l))
    where
      by : (b : Bool) → is_some (cond b (Some (first p l)) None) ≡ b
      by true = refl
      by false = refl

  pub found-at : (l : List A) {i : ℕ} → position p l ≡ Some i → (i ≡ first p l) × (any p l ≡ true)
  found-at l {i} h = by (any p l) (sym (position-any l) ∙ h)
    where
      by : (b : Bool) → cond b (Some (first p l)) None ≡ Some i → (i ≡ first p l) × (b ≡ true)
      by true e = (cc, refl)
      by false e = absurd (cc)

  pub none-found : (l : List A) → position p l ≡ None → any p l ≡ false
  none-found l h = by (any p l) (sym (position-any l) ∙ h)
    where
      by : (b : Bool) → cond b (Some (first p l)) None ≡ None → b ≡ false
      by true e = absurd (cc)
      by false e = refl

-- ---- replacing

-- it stores at the first place
pub replace-set : {A : Type 0} (p : A → Bool) (y : A) (l : List A) → replace p y l ≡ set l (first p l) y
replace-set p y [] = refl
replace-set {A} p y (x ∷ l) = by (p x) (replace-set p y l)
  where
    by : (b : Bool) → replace p y l ≡ set l (first p l) y → cond b (y ∷ l) (x ∷ replace p y l) ≡ set (x ∷ l) (cond b 0 (suc (first p l))) y
    by true e = refl
    by false e = ap (λ (t : List A). x ∷ t) e

pub replace-length : {A : Type 0} (p : A → Bool) (y : A) (l : List A) → length (replace p y l) ≡ length l
replace-length p y [] = refl
replace-length p y (x ∷ l) = by (p x) (replace-length p y l)
  where
    by : (b : Bool) → length (replace p y l) ≡ length l → length (cond b (y ∷ l) (x ∷ replace p y l)) ≡ suc (length l)
    by true e = refl
    by false e = ap suc e

-- what no element is, none is afterwards; what all are, all are
pub any-replace : {A : Type 0} (p q : A → Bool) (y : A) (l : List A) → p y ≡ false → any p l ≡ false → any p (replace q y l) ≡ false
any-replace p q y [] h e = refl
any-replace p q y (x ∷ l) h e = by (q x) (any-replace p q y l h (none_in p x l e).1)
  where
    by : (b : Bool) → any p (replace q y l) ≡ false → any p (cond b (y ∷ l) (x ∷ replace q y l)) ≡ false
    by true i = rw h (none_in p x l e).1
    by false i = rw (none_in p x l e).0 i

pub all-replace : {A : Type 0} (p q : A → Bool) (y : A) (l : List A) → p y ≡ true → all p l ≡ true → all p (replace q y l) ≡ true
all-replace p q y [] h e = refl
all-replace p q y (x ∷ l) h e = by (q x) (all-replace p q y l h (all_in p x l e).1)
  where
    by : (b : Bool) → all p (replace q y l) ≡ true → all p (cond b (y ∷ l) (x ∷ replace q y l)) ≡ true
    by true i = rw h (all_in p x l e).1
    by false i = rw (all_in p x l e).0 i

-- where one was so, it has become y
pub replaced-any : {A : Type 0} (p q : A → Bool) (y : A) (l : List A) → q y ≡ true → any p l ≡ true → any q (replace p y l) ≡ true
replaced-any p q y [] h e = e
replaced-any p q y (x ∷ l) h e = by (p x) e (λ g. replaced-any p q y l h g)
  where
    by : (b : Bool) → (b || any p l) ≡ true → (any p l ≡ true → any q (replace p y l) ≡ true) → any q (cond b (y ∷ l) (x ∷ replace p y l)) ≡ true
    by true g i = rw h
    by false g i = either (q x) (i g)
      where
        either : (b : Bool) → any q (replace p y l) ≡ true → (b || any q (replace p y l)) ≡ true
        either true k = refl
        either false k = k

-- ---- the same list, written another way: f reads an element

module _ {A B : Type 0} (f : A → B) where
  pub first-map : (p : B → Bool) (l : List A) → first p (map f l) ≡ first (λ x. p (f x)) l
  first-map p [] = refl
  first-map p (x ∷ l) = ap (λ (n : ℕ). cond (p (f x)) 0 (suc n)) (first-map p l)

  pub replace-map : (p : B → Bool) (y : A) (l : List A) → map f (replace (λ x. p (f x)) y l) ≡ replace p (f y) (map f l)
  replace-map p y [] = refl
  replace-map p y (x ∷ l) = by (p (f x)) (replace-map p y l)
    where
      by : (b : Bool) → map f (replace (λ x. p (f x)) y l) ≡ replace p (f y) (map f l)
          → map f (cond b (y ∷ l) (x ∷ replace (λ x. p (f x)) y l)) ≡ cond b (f y ∷ map f l) (f x ∷ replace p (f y) (map f l))
      by true e = refl
      by false e = ap (λ (t : List B). f x ∷ t) e
