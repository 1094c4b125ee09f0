-- Laws of entries: their text, and the room for two pieces. Assumes nothing.
use mathlib.Core.Path.{◌≡◌, refl, sym, ap, ◌∙◌}
use mathlib.Core.Bool.{Bool, true, false, cond}
use mathlib.Core.List.{List, [], ◌∷◌, ◌++◌, append_assoc}
use Prim.Native.Nat.{ℕ, ◌+◌, ◌-◌, ◌/◌, ◌%◌, ◌^◌, ◌≤◌, ◌<◌}
use native.Mathlib.Decide.{dec_le}
use native.Mathlib.Omega.{arith}
use lib.Dec.{eqb, leb}
use lib.ListN.{length, length-append}
use borrow.Author.Tests.{eq-eqb, le-leb, lt-leb, leb-false, eqb-true, eqb-false}
use Rattle.number.specs.BigEndian.{bytes_of}
use Rattle.text.specs.Ascii.{ascii}
use Rattle.layout.specs.Refusals.{buffer_too_small}
use Rattle.wire.specs.declared.Cursor.{Cursor}
use Rattle.field_writer.specs.Stored.{room_at, Room}
use Rattle.wire.specs.Cursors.{refusal}
use Rattle.field_writer.proofs.Storing.{room-refused, room-none}
use Rattle.lines.specs.Lines.{entry}

-- ---- text

pub length-entry : (v w : List ℕ) (x : ℕ) → length (entry v w x) ≡ length v + length w + 2
length-entry v w x = omega (arith, length-append v (ascii " " ++ (w ++ (x ∷ []))), length-append w (x ∷ []))

-- an entry, and text behind it
pub entry-then : (v w t : List ℕ) (x : ℕ) → entry v w x ++ t ≡ v ++ (ascii " " ++ (w ++ (x ∷ t)))
entry-then v w t x = append_assoc v (ascii " " ++ (w ++ (x ∷ []))) t ∙ ap (λ (y : List ℕ). v ++ (ascii " " ++ y)) (append_assoc w (x ∷ []) t)

pub one_byte : (x : ℕ) → x < 256 → bytes_of 1 x ≡ x ∷ []
unfolding bytes_of
one_byte x h = let e : x / 256 ^ 0 % 256 ≡ x = omega arith in rw e

-- ---- room for two pieces: the first fits into what the second leaves

module _ {c d : Cursor} {w n : ℕ} (r : Room c w n d) where
  -- where there is room, the cursor is the one that was asked for
  room-same : d.code ≡ 0 → d ≡ c
  unfolding room_at
  room-same z = go (eqb c.code 0) (leb (c.at + w) n) r.is
    where
      go : (b t : Bool) → d ≡ cond b (cond t c (refusal buffer_too_small)) c → d ≡ c
      go true true e = e
      go true false e = let none : 0 ≡ buffer_too_small = sym z ∙ ap (λ (x : Cursor). x.code) e in let no_such : ⊥ = omega arith in absurd no_such
      go false t e = e

  pub room-two : {f : Cursor} {v : ℕ} → d.code ≡ 0 → Room d v (n - w) f → Room c (v + w) n f
  unfolding room_at
  room-two {f} {v} z s = record { is = rw same at s.is ∙ go (dec_le (c.at + (v + w)) n); fits = λ y. omega (arith, s.fits y, within) }
    where
      same : d ≡ c
      same = room-same z

      begins : c.code ≡ 0
      begins = ap (λ (x : Cursor). x.code) (sym same) ∙ z

      within : c.at + w ≤ n
      within = rw same at (r.fits z)

      go : Dec (c.at + (v + w) ≤ n) → room_at c v (n - w) ≡ room_at c (v + w) n
      go (yes h) = rw (eq-eqb c.code 0 begins, le-leb (c.at + v) (n - w) (omega (arith, within)), le-leb (c.at + (v + w)) n h)
      go (no h) = rw (eq-eqb c.code 0 begins, lt-leb (c.at + v) (n - w) (omega (arith, within)), lt-leb (c.at + (v + w)) n (omega arith))

  pub room-two-none : (v : ℕ) → (d.code ≡ 0 → ⊥) → Room c (v + w) n d
  unfolding room_at
  room-two-none v h = go (eqb c.code 0) refl (leb (c.at + w) n) refl
    where
      go : (b : Bool) → eqb c.code 0 ≡ b → (t : Bool) → leb (c.at + w) n ≡ t → Room c (v + w) n d
      go true z true y = let same : d ≡ c = r.is ∙ rw (z, y) in absurd (h (ap (λ (x : Cursor). x.code) same ∙ eqb-true c.code 0 z))
      go true z false y =
          let none : d ≡ refusal buffer_too_small = r.is ∙ rw (z, y) in
          rw none (room-none c (v + w) n (eqb-true c.code 0 z) (omega (arith, leb-false (c.at + w) n y)))
      go false z t y =
          let same : d ≡ c = r.is ∙ rw z in
          rw same (room-refused c (v + w) n (eqb-false c.code 0 z))
