-- What the code's tests say of the definitions. Assumes nothing.
use mathlib.Core.Path.{◌≡◌, refl, sym, ap, ◌∙◌}
use mathlib.Core.Bool.{Bool, true, false, ◌&&◌, ◌||◌, or-false, and-true, and-false}
use mathlib.Core.List.{List, [], ◌∷◌}
use mathlib.Core.Logic.{◌⊎◌, inl, inr}
use Prim.Native.Nat.{ℕ, suc, ◌+◌, ◌-◌, ◌≤◌, ◌<◌}
use native.Mathlib.Omega.{arith}
use lib.ListN.{length, get_or, drop, length-drop}
use lib.Seq.{drop-cons, drop-drop}
use Rattle.text.specs.Utf8.{Range, Entry, entries, inside, inside_one, begins, matches, size, first_size, character, well_formed_end}
use Rattle.text.proofs.Characters.{begins-short}
use Rattle.text.proofs.Texts.{end-next, end_none, character-fits}

-- ---- the test of one byte

-- a byte of the range stands at the place
abbrev pub stands : Range → ℕ → List ℕ → Bool
stands r at s = begins (r ∷ []) (drop at s)

pub stands-inside : (r : Range) (s : List ℕ) (at : ℕ) → at < length s → stands r at s ≡ inside r (get_or s at 0)
stands-inside r s at h = rw (drop-cons s at 0 h) (and-true (inside r (get_or s at 0)))

pub stands-past : (r : Range) (s : List ℕ) (at : ℕ) → length s ≤ at → stands r at s ≡ false
stands-past r s at h = begins-short (r ∷ []) (drop at s) (let l : length (drop at s) ≡ length s - at = length-drop at s in omega arith)

-- ---- the decision on one entry, as the code has it: a test for each byte, one after the other

-- the first byte: it is of one of the ranges
abbrev pub first_test : List Range → ℕ → List ℕ → Bool
first_test [] at s = false
first_test (r ∷ []) at s = stands r at s
first_test (r ∷ q ∷ rs) at s = stands r at s || first_test (q ∷ rs) at s

-- the bytes from the k-th behind it on
abbrev pub later_tests : List Range → ℕ → ℕ → List ℕ → Bool
later_tests [] at k s = true
later_tests (r ∷ rs) at k s = stands r (at + k) s && later_tests rs at (k + 1) s

abbrev pub decision : Entry → ℕ → List ℕ → Bool
decision e at s = first_test e.first at s && later_tests e.rest at 1 s

begins-apart : (r : Range) (rs : List Range) (s : List ℕ) → begins (r ∷ []) s && begins rs (drop 1 s) ≡ begins (r ∷ rs) s
begins-apart r rs [] = refl
begins-apart r rs (b ∷ s) = ap (λ (t : Bool). t && begins rs s) (and-true (inside r b))

later-is : (rs : List Range) (s : List ℕ) (at k : ℕ) → later_tests rs at k s ≡ begins rs (drop (at + k) s)
later-is [] s at k = refl
later-is (r ∷ rs) s at k =
    let e : at + (k + 1) ≡ at + k + 1 = omega arith in
    ap (λ (t : Bool). stands r (at + k) s && t) (later-is rs s at (k + 1))
    ∙ rw (e, ← drop-drop 1 (at + k) s) (begins-apart r rs (drop (at + k) s))

first-is : (rs : List Range) (s : List ℕ) (at : ℕ) → at < length s → first_test rs at s ≡ inside_one rs (get_or s at 0)
first-is [] s at h = refl
first-is (r ∷ []) s at h = stands-inside r s at h ∙ sym (or-false (inside r (get_or s at 0)))
first-is (r ∷ q ∷ rs) s at h = rw (stands-inside r s at h, first-is (q ∷ rs) s at h)

-- it tells whether a character of the entry begins at the place
decision-is : (e : Entry) (s : List ℕ) (at : ℕ) → at < length s → decision e at s ≡ matches e (drop at s)
decision-is e s at h =
    let i : at + 1 ≡ suc at = omega arith in
    rw (first-is e.first s at h, later-is e.rest s at 1, drop-cons s at 0 h, i)

-- of two tests, the second is made where the first fails; f is what they come to
pub either : {A B : Type 0} {t u f : Bool} → (A → (t ≡ true) × (f ≡ true)) → (B → (t ≡ false) × (f ≡ u)) → A ⊎ B → t || u ≡ f
either g h (inl a) = rw (g a).0 (sym (g a).1)
either g h (inr b) = rw (h b).0 (sym (h b).1)

-- each of several tests holds
pub both : {t u : Bool} → t ≡ true → u ≡ true → t && u ≡ true
both e f = rw (e, f)

-- or one of them fails, and those behind it, r, are not made: the first
pub one-fails : {t : Bool} → t ≡ false → (r : Bool) → t && r ≡ false
one-fails e r = rw e

-- or one of the first two, three, four
module _ {A B : Type 0} {t u : Bool} (first : A → t ≡ false) (second : B → u ≡ false) where
  pub two-fail : (r : Bool) → B ⊎ A → t && (u && r) ≡ false
  two-fail r (inl b) = rw (second b) (and-false t)
  two-fail r (inr a) = rw (first a)

  module _ {C : Type 0} {v : Bool} (third : C → v ≡ false) where
    pub three-fail : (r : Bool) → C ⊎ (B ⊎ A) → t && (u && (v && r)) ≡ false
    three-fail r (inl c) = rw (third c, and-false u) (and-false t)
    three-fail r (inr w) = two-fail (v && r) w

    pub four-fail : {D : Type 0} {w : Bool} (fourth : D → w ≡ false) (r : Bool) → D ⊎ (C ⊎ (B ⊎ A)) → t && (u && (v && (w && r))) ≡ false
    four-fail {w} fourth r (inl d) = rw (fourth d, and-false v, and-false u) (and-false t)
    four-fail {w} fourth r (inr x) = three-fail (w && r) x

-- ---- the entries one after the other, until a decision is taken

-- the entries that are left for the character at a place
pub record Left (es : List Entry) (s : List ℕ) (at : ℕ) : Type 0 where
  pub inside-list : at < length s
  pub is : character (drop at s) ≡ first_size es (drop at s)

pub all_left : (s : List ℕ) (at : ℕ) → at < length s → Left entries s at
unfolding character
all_left s at h = record { inside-list = h; is = refl }

module _ {e : Entry} {es : List Entry} {s : List ℕ} {at : ℕ} (l : Left (e ∷ es) s at) where
  -- the test of the first byte
  abbrev pub first_of : Bool
  first_of = first_test e.first at s

  -- it is none of this entry
  pub passed : decision e at s ≡ false → Left es s at
  passed t = record { inside-list = l.inside-list; is = l.is ∙ rw (sym (decision-is e s at l.inside-list) ∙ t) }

  -- it is one of this entry
  pub chosen : decision e at s ≡ true → size e ≡ character (drop at s)
  chosen t = sym (l.is ∙ rw (sym (decision-is e s at l.inside-list) ∙ t))

-- no entry is left
pub none_left : {s : List ℕ} {at : ℕ} → Left [] s at → 0 ≡ character (drop at s)
none_left l = sym l.is

-- ---- the loop: what is well-formed up to a place, and what is left

pub record Passed (s : List ℕ) (at : ℕ) : Type 0 where
  pub fits : at ≤ length s
  pub is : well_formed_end s ≡ at + well_formed_end (drop at s)

pub passed_none : (s : List ℕ) → Passed s 0
passed_none s = record { fits = omega arith; is = omega arith }

pub passed-more : (s : List ℕ) (at n : ℕ) → n ≡ character (drop at s) → 0 < n → Passed s at → Passed s (at + n)
passed-more s at n e p h =
    let f : character (drop at s) ≤ length (drop at s) = character-fits (drop at s) in
    let l : length (drop at s) ≡ length s - at = length-drop at s in
    let d : drop n (drop at s) ≡ drop (at + n) s = drop-drop n at s in
    let w : well_formed_end (drop at s) ≡ n + well_formed_end (drop (at + n) s) = rw (← d, e) (end-next (drop at s) (omega arith)) in
    let a : at ≤ length s = h.fits in
    let r : well_formed_end s ≡ at + well_formed_end (drop at s) = h.is in
    record { fits = omega arith; is = omega arith }

pub passed-end : (s : List ℕ) (at : ℕ) → character (drop at s) ≡ 0 → Passed s at → at ≡ well_formed_end s
passed-end s at z h =
    let w : well_formed_end (drop at s) ≡ 0 = end_none (drop at s) z in
    let r : well_formed_end s ≡ at + well_formed_end (drop at s) = h.is in
    omega arith

pub passed-all : (s : List ℕ) (at : ℕ) → length s ≤ at → Passed s at → at ≡ well_formed_end s
passed-all s at l h =
    let f : character (drop at s) ≤ length (drop at s) = character-fits (drop at s) in
    let n : length (drop at s) ≡ length s - at = length-drop at s in
    passed-end s at (omega arith) h
