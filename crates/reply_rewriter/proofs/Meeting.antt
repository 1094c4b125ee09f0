-- The names of a message, met one after another: with their lengths they are one part of it. Assumes nothing.
use mathlib.Core.Path.{◌≡◌, refl, sym, ap, ◌∙◌}
use mathlib.Core.Bool.{Bool, true, false, cond, ◌&&◌, and-true, and_assoc}
use mathlib.Core.List.{List, [], ◌∷◌, ◌++◌, append_assoc, append-nil, map}
use Prim.Native.Nat.{ℕ, zero, suc, ◌+◌, ◌-◌, ◌≤◌, ◌<◌}
use native.Mathlib.Omega.{arith}
use lib.Dec.{leb}
use lib.IntN.{ℤ}
use lib.ListN.{length, take, drop}
use borrow.Author.Tests.{le-leb}
use Rattle.number.specs.BigEndian.{bytes_of, Bytes}
use Rattle.text.specs.Utf8.{well_formed}
use Rattle.layout.specs.Values.{Part, part, bytes_in}
use Rattle.layout.specs.Names.{first_name}
use Rattle.layout.specs.Writing.{sized, sized_all, all_well_formed}
use Rattle.layout.proofs.Agreement.{part_length, joined-parts}
use Rattle.layout.proofs.Rewritten.{sized-again}
use Rattle.wire.specs.Runs.{shown}
use Rattle.wire.specs.declared.Cursor.{Cursor}
use Rattle.field_writer.specs.Stored.{Puts}
use Rattle.message_writer.specs.declared.Written.{Written}
use Rattle.message_writer.specs.Writers.{admitted, Ends, Wrote}
use Rattle.readdir_writer.specs.Readdir.{store_names}
use Rattle.readdir_writer.proofs.Readdirs.{reply_pieces, pieces-wrote}
use Rattle.readdir_writer.proofs.Taking.{NameHere, names_on, names-next}
use Rattle.reply_rewriter.specs.declared.Names.{Names}
use Rattle.reply_rewriter.specs.Rewriting.{Met}

-- ---- the part that the names fill

-- `len` bytes behind the count: the message has them, or they are none
module _ (m : List ℕ) where
  filled-size : (len : ℕ) → (0 < len → first_name + len ≤ length m) → length (take len (drop first_name m)) ≡ len
  filled-size zero h = refl
  filled-size (suc n) h = part_length first_name (suc n) m (h (omega arith))

  filled-shown : (len : ℕ) → (0 < len → first_name + len ≤ length m) → shown m (part first_name len) ≡ take len (drop first_name m)
  unfolding shown
  filled-shown zero h = go (leb (first_name + 0) (length m))
    where
      go : (b : Bool) → cond {A = List ℕ} b [] [] ≡ []
      go true = refl
      go false = refl
  filled-shown (suc n) h = rw (le-leb (first_name + suc n) (length m) (h (omega arith)))

-- ---- the loop

-- the bytes of the names from place p on
abbrev names_from : List ℕ → ℕ → ℕ → List (List ℕ)
names_from m p left = map (bytes_in m) (names_on m p left)

-- `left` of the names are left to be met; the others fill `len` bytes, and are well-formed where `texts` says so
pub record Left (m : List ℕ) (count left : ℕ) (texts : Bool) (len : ℕ) : Type 0 where
  pub some : left ≤ count
  pub names : length (names_from m first_name count) ≡ count - left + length (names_from m (first_name + len) left)
  pub right : all_well_formed (names_from m first_name count) ≡ texts && all_well_formed (names_from m (first_name + len) left)
  pub bytes : sized_all (names_from m first_name count) ≡ take len (drop first_name m) ++ sized_all (names_from m (first_name + len) left)
  pub inside : 0 < len → first_name + len ≤ length m

pub left-all : (m : List ℕ) (count : ℕ) → Left m count count true 0
left-all m count = record { some = omega arith; names = omega arith; right = refl; bytes = refl; inside = λ z. omega arith }

module _ {m : List ℕ} {count left : ℕ} {texts : Bool} {len : ℕ} (l : Left m count left texts len) where
  -- the place of the next name is no greater than what a number can hold
  pub left-fits : (k : ℕ) → first_name ≤ k → length m ≤ k → first_name + len ≤ k
  left-fits k h g = go len l.inside
    where
      go : (n : ℕ) → (0 < n → first_name + n ≤ length m) → first_name + n ≤ k
      go zero i = omega arith
      go (suc n) i = omega (arith, i (omega arith))

  pub left-next : Bytes m → 0 < left → {x : Part} {q : ℕ} {b : Bool} → NameHere m (first_name + len) x q
      → b ≡ well_formed (take (x.start + x.size - x.start) (drop x.start m)) → Left m count (left - 1) (texts && b) (x.start + x.size - first_name)
  left-next by some {x} {q} {b} h w =
      let whole : x.start + x.size - x.start ≡ x.size = omega arith in
      let size : x.start + x.size - first_name ≡ len + (4 + x.size) = omega (arith, h.begins) in
      let behind : q ≡ first_name + (x.start + x.size - first_name) = omega (arith, h.begins, h.behind) in
      let rest : names_from m (first_name + len) left ≡ bytes_in m x ∷ names_from m (first_name + (x.start + x.size - first_name)) (left - 1) =
      ap (map (bytes_in m)) (names-next left h some) ∙ ap (λ (p : ℕ). bytes_in m x ∷ names_from m p (left - 1)) behind in
      let filled : take len (drop first_name m) ++ sized (bytes_in m x) ≡ take (x.start + x.size - first_name) (drop first_name m) =
      ap (λ (e : List ℕ). take len (drop first_name m) ++ e) (sized-again by h.here)
      ∙ joined-parts m first_name len (4 + x.size)
      ∙ ap (λ (k : ℕ). take k (drop first_name m)) (sym size) in
      let zs : List (List ℕ) = names_from m (first_name + (x.start + x.size - first_name)) (left - 1) in
      record {
        some = omega (arith, l.some);
        names = omega (arith, l.some, l.names, ap length rest);
        right = l.right
            ∙ ap (λ (ss : List (List ℕ)). texts && all_well_formed ss) rest
            ∙ sym (and_assoc texts (well_formed (bytes_in m x)) (all_well_formed zs))
            ∙ rw (w, whole);
        bytes = l.bytes
            ∙ ap (λ (ss : List (List ℕ)). take len (drop first_name m) ++ sized_all ss) rest
            ∙ sym (append_assoc (take len (drop first_name m)) (sized (bytes_in m x)) (sized_all zs))
            ∙ ap (λ (e : List ℕ). e ++ sized_all zs) filled;
        inside = λ z. omega (arith, h.begins, h.fits);
      }

  pub left_end : names_on m (first_name + len) left ≡ [] → (n : ℕ) → n ≡ count - left
      → Met m (map (bytes_in m) (names_on m first_name count)) (record { count = n; texts = texts; len = len })
  left_end e n k =
      let none : names_from m (first_name + len) left ≡ [] = ap (map (bytes_in m)) e in
      let all : sized_all (names_from m first_name count) ≡ take len (drop first_name m) = l.bytes ∙ rw (none, append-nil) in
      record {
        count = omega (arith, l.names, ap length none);
        texts = sym (l.right ∙ rw none (and-true texts));
        len = sym (ap length all ∙ filled-size m len l.inside);
        bytes = filled-shown m len l.inside ∙ sym all;
      }

-- ---- the reply

-- header, result and count, and behind them the part, stored from where they were admitted
pub met-wrote : (i : ℕ) (z : ℤ) {m : List ℕ} {ss : List (List ℕ)} {x : Names} → Met m ss x → {l n : List ℕ} {c f : Cursor} {r : Written}
    → c ≡ admitted x.texts (x.len + 0 + first_name) (length l) → Puts l c (reply_pieces i z x.count (shown m (part first_name x.len) ∷ [])) n f → Ends f r
    → Wrote (store_names i z ss l) n r
met-wrote i z {m} {ss} {x} h start q end =
    pieces-wrote i z ss x.count (shown m (part first_name x.len) ∷ []) (ap (bytes_of 4) h.count) (append-nil (shown m (part first_name x.len)) ∙ h.bytes) h.texts (omega (arith, h.len)) start q end
