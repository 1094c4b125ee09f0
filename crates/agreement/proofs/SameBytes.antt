-- Bytes compared one after another, and parts that show the same. Assumes nothing.
use Prim.Native.Nat.{ℕ, zero, suc, ◌≤◌, ◌<◌, ◌+◌}
use Prim.Native.String.{String}
use mathlib.Core.Path.{◌≡◌, refl, sym, ap, ap₂, ◌∙◌}
use mathlib.Core.Bool.{Bool, true, false, cond, ◌&&◌}
use mathlib.Core.List.{List, [], ◌∷◌, map}
use native.Mathlib.Numerals.{add-one}
use native.Mathlib.Omega.{arith}
use lib.Dec.{eqb, leb}
use lib.ListN.{length, take, drop, get_or, length-drop}
use lib.Seq.{drop-cons}
use lib.Text.{eqt}
use borrow.Author.Tests.{eq-eqb, ne_eqb}
use Rattle.layout.specs.Kinds.{Field}
use Rattle.layout.specs.Table.{Side}
use Rattle.layout.specs.Values.{Part, Value, number, signed, truth, run, runs, run_of}
use Rattle.layout.specs.Reading.{Shape, Answer, accepted}
use Rattle.layout.specs.Parts.{nothing, named, fields_of, part_named}
use Rattle.wire.specs.Runs.{shown}
use Rattle.wire.specs.Values.{shown_in}
use Rattle.agreement.specs.Agreeing.{eq_bytes, same_parts}

-- ---- the comparison

eq-itself : (n : ℕ) → eqb n n ≡ true
eq-itself n = eq-eqb n n refl

pub bytes_same : (xs ys : List ℕ) → xs ≡ ys → eq_bytes xs ys ≡ true
bytes_same xs ys e = ap (λ (zs : List ℕ). eq_bytes xs zs) (sym e) ∙ itself xs
  where
    itself : (zs : List ℕ) → eq_bytes zs zs ≡ true
    itself [] = refl
    itself (z ∷ zs) = rw (eq-itself z) (itself zs)

pub lengths_differ : (xs ys : List ℕ) → (length xs ≡ length ys → ⊥) → false ≡ eq_bytes xs ys
lengths_differ [] [] h = absurd (h refl)
lengths_differ [] (y ∷ ys) h = refl
lengths_differ (x ∷ xs) [] h = refl
lengths_differ (x ∷ xs) (y ∷ ys) h = sym (go (eqb x y) (sym (lengths_differ xs ys (λ e. h (ap suc e)))))
  where
    go : (b : Bool) → eq_bytes xs ys ≡ false → b && eq_bytes xs ys ≡ false
    go true e = e
    go false e = refl

-- i bytes were the same, and the rest is to be compared
pub record SameSoFar (a b : List ℕ) (i : ℕ) : Type 0 where
  pub lengths : length a ≡ length b
  pub inside : i ≤ length a
  pub rest : eq_bytes (drop i a) (drop i b) ≡ eq_bytes a b

module _ {a b : List ℕ} where
  pub from-the-first : length a ≡ length b → SameSoFar a b 0
  from-the-first e = record { lengths = e; inside = omega arith; rest = refl }

  module _ {i : ℕ} (h : SameSoFar a b i) where
    module _ (l : i < length a) where
      both : eq_bytes a b ≡ eqb (get_or a i 0) (get_or b i 0) && eq_bytes (drop (suc i) a) (drop (suc i) b)
      both = sym h.rest ∙ ap₂ eq_bytes (drop-cons a i 0 l) (drop-cons b i 0 (omega (arith, l, h.lengths)))

      pub one_more : get_or a i 0 ≡ get_or b i 0 → SameSoFar a b (i + 1)
      one_more e =
          record {
            lengths = h.lengths;
            inside = omega (arith, l);
            rest = rw add-one (sym (both ∙ ap (λ (t : Bool). t && eq_bytes (drop (suc i) a) (drop (suc i) b)) (eq-eqb (get_or a i 0) (get_or b i 0) e)));
          }

      pub one-differs : (get_or a i 0 ≡ get_or b i 0 → ⊥) → false ≡ eq_bytes a b
      one-differs e = sym (both ∙ ap (λ (t : Bool). t && eq_bytes (drop (suc i) a) (drop (suc i) b)) (ne_eqb (get_or a i 0) (get_or b i 0) e))

    pub all_same : length a ≤ i → true ≡ eq_bytes a b
    all_same l =
        let at-end : i ≡ length a = omega (arith, h.inside, l) in
        sym (nothing_left (drop i a) (drop i b) (omega (arith, length-drop i a, at-end)) (omega (arith, length-drop i b, at-end, h.lengths))) ∙ h.rest
      where
        nothing_left : (xs ys : List ℕ) → length xs ≡ 0 → length ys ≡ 0 → eq_bytes xs ys ≡ true
        nothing_left [] [] e f = refl
        nothing_left [] (y ∷ ys) e f = let none : ⊥ = omega (arith, f) in absurd none
        nothing_left (x ∷ xs) ys e f = let none : ⊥ = omega (arith, e) in absurd none

-- ---- parts

shown-nothing : (m : List ℕ) → shown m nothing ≡ []
unfolding shown
shown-nothing m = go (leb (0 + 0) (length m))
  where
    go : (b : Bool) → cond b (take 0 (drop 0 m)) [] ≡ []
    go true = refl
    go false = refl

-- values that say the same in both messages show the same by every name
module _ (m n : List ℕ) where
  nothing-same : shown m nothing ≡ shown n nothing
  nothing-same = shown-nothing m ∙ sym (shown-nothing n)

  value_same : (v : Value Part) → shown_in m v ≡ shown_in n v → shown m (run_of nothing v) ≡ shown n (run_of nothing v)
  value_same (number x) e = nothing-same
  value_same (signed z) e = nothing-same
  value_same (truth b) e = nothing-same
  value_same (run x) e = cc
  value_same (runs xs) e = nothing-same

  named-same : (x : String) (fs : List Field) (vs : List (Value Part)) → map (shown_in m) vs ≡ map (shown_in n) vs
      → shown m (named x fs vs) ≡ shown n (named x fs vs)
  named-same x [] vs e = nothing-same
  named-same x (f ∷ fs) [] e = nothing-same
  named-same x (f ∷ fs) (v ∷ vs) e =
      let head : shown_in m v ≡ shown_in n v = cc in
      let tail : map (shown_in m) vs ≡ map (shown_in n) vs = cc in
      go (eqt x f.name) head (named-same x fs vs tail)
    where
      go : (b : Bool) → shown_in m v ≡ shown_in n v → shown m (named x fs vs) ≡ shown n (named x fs vs)
          → shown m (cond b (run_of nothing v) (named x fs vs)) ≡ shown n (cond b (run_of nothing v) (named x fs vs))
      go true h t = value_same v h
      go false h t = t

  module _ (side : Side) {s : Shape} {i t k : ℕ} {vs : List (Value Part)} (a b : Answer) (ea : a ≡ accepted s i t vs k) (eb : b ≡ accepted s i t vs k) (e : map (shown_in m) vs ≡ map (shown_in n) vs) where
    part_same : (x : String) → eq_bytes (shown m (part_named side x a)) (shown n (part_named side x b)) ≡ true
    part_same x =
        bytes_same (shown m (part_named side x a)) (shown n (part_named side x b))
        (ap (λ (y : Answer). shown m (part_named side x y)) ea ∙ named-same x (fields_of side t) vs e ∙ ap (λ (y : Answer). shown n (part_named side x y)) (sym eb))

    pub parts_same_lem : (xs : List String) → same_parts side xs m a n b ≡ true
    parts_same_lem [] = refl
    parts_same_lem (x ∷ []) = part_same x
    parts_same_lem (x ∷ y ∷ xs) = ap₂ (λ (p q : Bool). p && q) (part_same x) (parts_same_lem (y ∷ xs))
