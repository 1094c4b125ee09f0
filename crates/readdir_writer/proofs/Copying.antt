-- Names counted and copied, one after another. Assumes nothing.
use mathlib.Core.Path.{◌≡◌, refl, sym, ap, ap₂, ◌∙◌}
use mathlib.Core.Bool.{Bool, true, false, cond, ◌&&◌}
use mathlib.Core.List.{List, [], ◌∷◌, ◌++◌, map}
use Prim.Native.Nat.{ℕ, suc, ◌+◌, ◌-◌, ◌≤◌, ◌<◌}
use native.Mathlib.Numerals.{add-one}
use native.Mathlib.Omega.{arith}
use lib.Dec.{leb}
use lib.ListN.{length, take, drop, set, length-set}
use lib.Seq.{sets, sets-eq}
use borrow.Author.Tests.{le-leb, lt-leb, leb-true}
use Rattle.number.specs.BigEndian.{overwritten}
use Rattle.layout.specs.Values.{Part, bytes_in}
use Rattle.layout.specs.Writing.{sum}
use Rattle.layout.proofs.Tests.{apart}
use Rattle.wire.specs.declared.Cursor.{Cursor}
use Rattle.field_writer.specs.Stored.{Put, Puts, none, more}
use Rattle.wire.specs.Cursors.{place}
use Rattle.field_writer.proofs.Storing.{each-put}
use Rattle.readdir_writer.specs.declared.Collected.TheVariants.{Copied}
use Rattle.readdir_writer.specs.Collecting.{sizes, joined, no_room, counted, Buffers, buffers, filled, RoomFor, Copies, Collects}

-- ---- the answer

module _ (ns : List ℕ) (room most : ℕ) where
  too_many : most < length ns → no_room ≡ counted ns room most
  unfolding counted
  too_many h = go (leb (sum ns) room)
    where
      go : (b : Bool) → no_room ≡ cond (b && leb (length ns) most) (Copied (length ns) (sum ns)) no_room
      go true = rw (lt-leb (length ns) most h)
      go false = refl

  too_long : room < sum ns → no_room ≡ counted ns room most
  unfolding counted
  too_long h = rw (lt-leb (sum ns) room h)

  all_fit : sum ns ≤ room → length ns ≤ most → Copied (length ns) (sum ns) ≡ counted ns room most
  unfolding counted
  all_fit h k = rw (le-leb (sum ns) room h, le-leb (length ns) most k)

  -- an answer with names says how many, and that they fit
  pub copied : {count len : ℕ} → Copied count len ≡ counted ns room most → (count ≡ length ns) × (len ≡ sum ns) × (sum ns ≤ room) × (length ns ≤ most)
  unfolding counted
  copied {count} {len} e = go (leb (sum ns) room) (leb (length ns) most) refl refl e
    where
      go : (b c : Bool) → leb (sum ns) room ≡ b → leb (length ns) most ≡ c → Copied count len ≡ cond (b && c) (Copied (length ns) (sum ns)) no_room
          → (count ≡ length ns) × (len ≡ sum ns) × (sum ns ≤ room) × (length ns ≤ most)
      go true true h k e = (cc, cc, leb-true (sum ns) room h, leb-true (length ns) most k)
      go true false h k e = let z : false ≡ true = cc in apart z
      go false c h k e = let z : false ≡ true = cc in apart z

-- ---- counting

-- of the names xs, ys are left to be counted
pub record CountLeft (xs ys : List Part) (room most count len : ℕ) : Type 0 where
  pub names : length (sizes xs) ≡ count + length (sizes ys)
  pub bytes : sum (sizes xs) ≡ len + sum (sizes ys)
  pub names-fit : count ≤ most
  pub bytes_fit : len ≤ room

pub count-all : (xs : List Part) (room most : ℕ) → CountLeft xs xs room most 0 0
count-all xs room most = record { names = omega arith; bytes = omega arith; names-fit = omega arith; bytes_fit = omega arith }

module _ {xs ys : List Part} {room most count len : ℕ} (l : CountLeft xs ys room most count len) where
  pub count-end : ys ≡ [] → Copied count len ≡ counted (sizes xs) room most
  count-end e =
      let n : count ≡ length (sizes xs) = omega (arith, ap (λ (zs : List Part). length (sizes zs)) e) in
      let b : len ≡ sum (sizes xs) = omega (arith, ap (λ (zs : List Part). sum (sizes zs)) e) in
      ap₂ Copied n b ∙ all_fit (sizes xs) room most (omega arith) (omega arith)

  module _ {x : Part} {zs : List Part} (e : ys ≡ x ∷ zs) where
    next-name : length (sizes ys) ≡ suc (length (sizes zs))
    next-name = ap (λ (ws : List Part). length (sizes ws)) e

    next-bytes : sum (sizes ys) ≡ x.size + sum (sizes zs)
    next-bytes = ap (λ (ws : List Part). sum (sizes ws)) e

    pub names-full : most ≤ count → no_room ≡ counted (sizes xs) room most
    names-full f = too_many (sizes xs) room most (omega (arith, next-name))

    pub bytes-full : room - len < x.size → no_room ≡ counted (sizes xs) room most
    bytes-full f = too_long (sizes xs) room most (omega (arith, next-bytes))

    pub count_next : count < most → x.size ≤ room - len → CountLeft xs zs room most (count + 1) (len + x.size)
    count_next f g =
        record { names = omega (arith, next-name); bytes = omega (arith, next-bytes); names-fit = omega arith; bytes_fit = omega arith }

-- ---- copying

-- of the names xs of m, ys are left to be copied: copying them is copying all
pub record CopyLeft (m : List ℕ) (xs ys : List Part) (run lengths run' lengths' : List ℕ) (c : Cursor) (i : ℕ) : Type 0 where
  pub puts : {n : List ℕ} {f : Cursor} → Puts run' c (map (bytes_in m) ys) n f → Puts run (place 0) (map (bytes_in m) xs) n f
  pub stores : sets lengths' i (sizes ys) ≡ sets lengths 0 (sizes xs)
  pub names : i + length (sizes ys) ≡ length (sizes xs)
  pub bytes : sum (sizes xs) ≡ length (joined m xs)
  pub run_long : length run' ≡ length run
  pub lengths-long : length lengths' ≡ length lengths

pub copy-all : {m : List ℕ} {xs : List Part} (run lengths : List ℕ) → sum (sizes xs) ≡ length (joined m xs) → CopyLeft m xs xs run lengths run lengths (place 0) 0
copy-all run lengths b = record { puts = λ q. q; stores = refl; names = omega arith; bytes = b; run_long = refl; lengths-long = refl }

module _ {m : List ℕ} {xs ys : List Part} {run lengths run' lengths' : List ℕ} {c : Cursor} {i : ℕ} (l : CopyLeft m xs ys run lengths run' lengths' c i)
    (room : RoomFor (sizes xs) (buffers run lengths)) where
  pub copy-end : ys ≡ [] → Copies m xs (buffers run lengths) (buffers run' lengths')
  unfolding overwritten
  copy-end e =
      let zero-bytes : 0 + sum (sizes xs) ≡ sum (sizes xs) = omega arith in
      let zero-names : 0 + length (sizes xs) ≡ length (sizes xs) = omega arith in
      let none_left : Puts run' c (map (bytes_in m) ys) run' c = rw e none in
      let p = each-put (l.puts none_left) refl (omega (arith, l.bytes, room.bytes)) in
      let bytes : run' ≡ joined m xs ++ drop (sum (sizes xs)) run = p.0 ∙ rw (← l.bytes, zero-bytes) in
      let names : sets lengths' i (sizes ys) ≡ sizes xs ++ drop (length (sizes xs)) lengths =
      l.stores ∙ sets-eq (sizes xs) lengths 0 (omega (arith, room.count)) ∙ rw zero-names in
      record { is = ap₂ buffers bytes (rw e at names) }

  module _ {x : Part} {zs : List Part} (e : ys ≡ x ∷ zs) where
    next-length : length (sizes ys) ≡ suc (length (sizes zs))
    next-length = ap (λ (ws : List Part). length (sizes ws)) e

    pub copy-index : i < length lengths'
    copy-index = omega (arith, room.count, next-length)

    pub copy-next : {run'' : List ℕ} {d : Cursor} → Put run' c (take (x.start + x.size - x.start) (drop x.start m)) run'' d → length run'' ≡ length run'
        → CopyLeft m xs zs run lengths run'' (set lengths' i x.size) d (i + 1)
    copy-next p long =
        let size : x.start + x.size - x.start ≡ x.size = omega arith in
        record {
          puts = λ q. l.puts (rw e (more (rw size at p) q));
          stores = rw add-one (sym (ap (λ (ws : List Part). sets lengths' i (sizes ws)) e)) ∙ l.stores;
          names = omega (arith, next-length);
          bytes = l.bytes;
          run_long = long ∙ l.run_long;
          lengths-long = length-set lengths' i x.size ∙ l.lengths-long;
        }

-- ---- collecting

pub room_for : (ns : List ℕ) (b : Buffers) {count len : ℕ} → Copied count len ≡ counted ns (length b.run) (length b.lengths) → RoomFor ns b
room_for ns b e = let c = copied ns (length b.run) (length b.lengths) e in record { bytes = c.2; count = c.3 }

pub collects-all : {m : List ℕ} {xs : List Part} {b d : Buffers} {count len : ℕ}
    → Copied count len ≡ counted (sizes xs) (length b.run) (length b.lengths) → Copies m xs b d → Collects m xs b d (Copied count len)
collects-all {m} {xs} {b} e p =
    let c = copied (sizes xs) (length b.run) (length b.lengths) e in
    record { answers = e; leaves = p.is ∙ ap (filled m xs b) (sym (ap₂ Copied c.0 c.1)) }
