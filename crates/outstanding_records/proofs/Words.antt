-- A record's word is read as the record. Assumes nothing.
use Rattle.std.proofs.Common.{◌≡◌, refl, ℕ, ◌+◌, ◌*◌, ◌/◌, ◌%◌, ◌<◌, true, arith}
use lib.Dec.{eqb}
use borrow.Author.Tests.{eq-eqb, ne_eqb}
use Rattle.outstanding_records.specs.declared.Record.TheVariants.{Free, Held}
use Rattle.outstanding_records.specs.Words.{type_unit, tenant_unit, byte, held_mark, word_of, record_of}

abbrev packed : ℕ → ℕ → ℕ
packed i t = held_mark + t * type_unit + i

pub word_read : (i t : ℕ) → i < type_unit → t < byte → record_of (word_of (Held i (record { type_number = t }))) ≡ Held i (record { type_number = t })
unfolding word_of record_of
word_read i t a b = rw (ne_eqb (packed i t) 0 (λ e. omega arith), mark, id-in, type-in)
  where
    mark : eqb (packed i t / tenant_unit) (held_mark / tenant_unit) ≡ true
    mark = eq-eqb (packed i t / tenant_unit) (held_mark / tenant_unit) (omega arith)

    id-in : packed i t % type_unit ≡ i
    id-in = omega arith

    type-in : packed i t / type_unit % byte ≡ t
    type-in = omega arith

pub free-read : record_of (word_of Free) ≡ Free
unfolding word_of record_of
free-read = refl
