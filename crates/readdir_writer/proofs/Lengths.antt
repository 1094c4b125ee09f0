-- Lengths taken one after another, as loops take them. Assumes nothing.
use mathlib.Core.Path.{◌≡◌, refl, sym, ap, ◌∙◌}
use mathlib.Core.Bool.{Bool, true, false, not, ◌&&◌}
use mathlib.Core.List.{List, [], ◌∷◌}
use Prim.Native.Nat.{ℕ, zero, suc, ◌+◌, ◌-◌, ◌≤◌, ◌<◌}
use native.Mathlib.Numerals.{add-one}
use native.Mathlib.Omega.{arith}
use lib.Dec.{eqb}
use lib.ListN.{length, take, drop, get_or, drop_of_length-le, length-drop}
use lib.Seq.{drop-cons, drop-drop, length-take-le}
use borrow.Author.Tests.{eq-eqb, ne_eqb, not-true, not-false}
use Rattle.number.specs.BigEndian.{bytes_of}
use Rattle.text.specs.Utf8.{well_formed}
use Rattle.layout.specs.Limits.{longest}
use Rattle.layout.specs.Writing.{sized, all_well_formed, split, sum}
use Rattle.wire.specs.declared.Cursor.{Cursor}
use Rattle.field_writer.specs.Stored.{run_from, Put, Puts, none, more}
use Rattle.field_writer.proofs.Storing.{put-from, run-put}
use Rattle.readdir_writer.specs.Readdir.{name_pieces}

-- ---- one length further on

module _ (ns : List ℕ) (i : ℕ) where
  sum-next : i < length ns → sum (drop i ns) ≡ get_or ns i 0 + sum (drop (i + 1) ns)
  sum-next h = rw (add-one, drop-cons ns i 0)

  sum-none : length ns ≤ i → sum (drop i ns) ≡ 0
  sum-none h = ap sum (drop_of_length-le ns h)

-- ---- what is left of a total

-- `left` is left of `total` when i lengths are taken from it
pub record Left (ns : List ℕ) (total left i : ℕ) : Type 0 where
  pub is : left + sum ns ≡ total + sum (drop i ns)

pub left-all : (ns : List ℕ) (total : ℕ) → Left ns total total 0
left-all ns total = record { is = refl }

module _ {ns : List ℕ} {total left i : ℕ} (l : Left ns total left i) where
  -- the next length is more than what is left
  pub left-short : i < length ns → left < get_or ns i 0 → false ≡ eqb (sum ns) total
  left-short h s = sym (ne_eqb (sum ns) total (λ e. omega (arith, sum-next ns i h)))

  pub left-next : i < length ns → get_or ns i 0 ≤ left → Left ns total (left - get_or ns i 0) (i + 1)
  left-next h s = record { is = omega (arith, sum-next ns i h) }

  pub left_end : length ns ≤ i → eqb left 0 ≡ eqb (sum ns) total
  left_end h = go left (omega (arith, sum-none ns i h))
    where
      go : (k : ℕ) → k + sum ns ≡ total → eqb k 0 ≡ eqb (sum ns) total
      go zero e = sym (eq-eqb (sum ns) total (omega arith))
      go (suc k) e = ne_eqb (suc k) 0 (λ z. omega arith) ∙ sym (ne_eqb (sum ns) total (λ z. omega arith))

-- ---- names in a run

-- the name behind i others begins at `at` of the run s
pub record Placed (ns s : List ℕ) (i at : ℕ) : Type 0 where
  pub is : at + sum (drop i ns) ≡ length s

-- it, and those behind it
abbrev pub names_left : List ℕ → List ℕ → ℕ → ℕ → List (List ℕ)
names_left ns s i at = split (drop i ns) (drop at s)

module _ {ns s : List ℕ} {i at : ℕ} (p : Placed ns s i at) where
  pub placed_end : length ns ≤ i → names_left ns s i at ≡ []
  placed_end h = ap (λ (ks : List ℕ). split ks (drop at s)) (drop_of_length-le ns h)

  module _ (h : i < length ns) where
    pub placed-fits : at + get_or ns i 0 ≤ length s
    placed-fits = omega (arith, sum-next ns i h)

    pub placed-next : Placed ns s (i + 1) (at + get_or ns i 0)
    placed-next = record { is = omega (arith, sum-next ns i h) }

    -- the name as the code takes it from the run, and those behind it
    pub placed-split : names_left ns s i at ≡ take (at + get_or ns i 0 - at) (drop at s) ∷ names_left ns s (i + 1) (at + get_or ns i 0)
    placed-split =
        let e : at + get_or ns i 0 - at ≡ get_or ns i 0 = omega arith in
        rw (e, add-one, drop-cons ns i 0, drop-drop (get_or ns i 0) at s)

-- ---- each name is looked at

-- the names that are left decide
pub record TextsLeft (ns s : List ℕ) (i at : ℕ) : Type 0 where
  pub placed : Placed ns s i at
  pub is : all_well_formed (split ns s) ≡ all_well_formed (names_left ns s i at)

pub texts-all : (ns s : List ℕ) → sum ns ≡ length s → TextsLeft ns s 0 0
texts-all ns s e = record { placed = record { is = omega arith }; is = refl }

module _ {ns s : List ℕ} {i at : ℕ} (t : TextsLeft ns s i at) where
  pub texts-end : length ns ≤ i → true ≡ all_well_formed (split ns s)
  texts-end h = sym (t.is ∙ ap all_well_formed (placed_end t.placed h))

  module _ (h : i < length ns) {b : Bool} (w : b ≡ well_formed (take (at + get_or ns i 0 - at) (drop at s))) where
    texts-split : all_well_formed (split ns s) ≡ b && all_well_formed (names_left ns s (i + 1) (at + get_or ns i 0))
    texts-split = t.is ∙ rw (placed-split t.placed h, ← w)

    pub texts-stop : not b ≡ true → false ≡ all_well_formed (split ns s)
    texts-stop n = sym (texts-split ∙ rw (not-true b n))

    pub texts-next : not b ≡ false → TextsLeft ns s (i + 1) (at + get_or ns i 0)
    texts-next n = record { placed = placed-next t.placed h; is = texts-split ∙ rw (not-false b n) }

-- ---- each name is stored

-- storing the names that are left is storing all
pub record PutsLeft (l : List ℕ) (c : Cursor) (ns s m : List ℕ) (d : Cursor) (i at : ℕ) : Type 0 where
  pub placed : Placed ns s i at
  pub long : length m ≡ length l
  pub within : d.code ≡ 0 → length s ≤ longest
  pub all : {n : List ℕ} {f : Cursor} → Puts m d (name_pieces (names_left ns s i at)) n f → Puts l c (name_pieces (split ns s)) n f

pub puts-all : (l : List ℕ) (c : Cursor) (ns s : List ℕ) → sum ns ≡ length s → (c.code ≡ 0 → length s ≤ longest) → PutsLeft l c ns s l c 0 0
puts-all l c ns s e h = record { placed = record { is = omega arith }; long = refl; within = h; all = λ q. q }

module _ {l : List ℕ} {c : Cursor} {ns s m : List ℕ} {d : Cursor} {i at : ℕ} (p : PutsLeft l c ns s m d i at) where
  pub puts-end : length ns ≤ i → Puts l c (name_pieces (split ns s)) m d
  puts-end h = p.all (rw (placed_end p.placed h) none)

  pub puts-next : i < length ns → {m' : List ℕ} {d' : Cursor} → length m' ≡ length m
      → (let x = take (at + get_or ns i 0 - at) (drop at s) in Put m (run_from d (length x)) (sized x) m' d')
      → PutsLeft l c ns s m' d' (i + 1) (at + get_or ns i 0)
  puts-next h e q =
      let x = take (at + get_or ns i 0 - at) (drop at s) in
      let short : length x ≤ length s = omega (arith, length-take-le (at + get_or ns i 0 - at) (drop at s) (omega (arith, length-drop at s, placed-fits p.placed h)), placed-fits p.placed h) in
      let stored = run-put (λ z. let w = p.within z in omega (arith, w, short)) q in
      record {
        placed = placed-next p.placed h;
        long = e ∙ p.long;
        within = λ z. p.within (put-from stored z);
        all = λ r. p.all (rw (placed-split p.placed h) (more stored r));
      }
