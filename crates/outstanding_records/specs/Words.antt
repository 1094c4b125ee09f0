-- Records as words of 64 bits, for a host that lends numbers. From the lowest bit: the id, 32 bits; the type, 8; 8 that are kept for a tenant
-- and are 0; the mark of a held record, 1; the rest is 0. A free record is 0.
use Rattle.std.specs.Prelude.{ℕ, ◌+◌, ◌*◌, ◌/◌, ◌%◌, Bool, cond, List, map, eqb}
use Rattle.outstanding_records.specs.declared.Record.{Record}
use Rattle.outstanding_records.specs.declared.Record.TheVariants.{Free, Held}

-- 2 to the 32nd, the 40th, the 48th
abbrev pub type_unit : ℕ
type_unit = 0x1_0000_0000

abbrev pub tenant_unit : ℕ
tenant_unit = 0x100_0000_0000

abbrev pub held_mark : ℕ
held_mark = 0x1_0000_0000_0000

unfoldable pub word_of : Record → ℕ
word_of Free = 0
word_of (Held i q) = held_mark + q.type_number * type_unit + i

-- the values of a byte
abbrev pub byte : ℕ
byte = 0x100

-- above the type, nothing but the mark
abbrev pub is_held : ℕ → Bool
is_held w = eqb (w / tenant_unit) (held_mark / tenant_unit)

-- a type that no sound table holds
abbrev pub no_type : ℕ
no_type = 0xff

abbrev pub type_in : ℕ → ℕ
type_in w = cond (is_held w) (w / type_unit % byte) no_type

-- a word that no record gives is read as a record that no sound table holds
unfoldable pub record_of : ℕ → Record
record_of w = cond (eqb w 0) Free (Held (w % type_unit) (record { type_number = type_in w }))

abbrev pub records : List ℕ → List Record
records ws = map record_of ws
