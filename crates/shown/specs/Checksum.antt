-- The checksum of second/FORMAT.md.
use Rattle.std.specs.Prelude.{ℕ, ◌+◌, ◌*◌, ◌%◌, List, [], ◌∷◌, ◌++◌, map}
use Rattle.number.specs.BigEndian.{bytes_of}
use Rattle.field_writer.specs.Stored.{concat}
use Rattle.outstanding_records.specs.declared.Record.{Record}
use Rattle.outstanding_records.specs.declared.Record.TheVariants.{Free, Held}

abbrev pub factor : ℕ
factor = 257

abbrev pub modulus : ℕ
modulus = 4_294_967_291

-- the checksum of what h is the checksum of and the byte b behind it
unfoldable pub with_byte : ℕ → ℕ → ℕ
with_byte h b = (h * factor + b + 1) % modulus

-- the same with these bytes behind it
abbrev pub checksum_after : ℕ → List ℕ → ℕ
checksum_after h [] = h
checksum_after h (b ∷ bs) = checksum_after (with_byte h b) bs

abbrev pub checksum : List ℕ → ℕ
checksum bs = checksum_after 0 bs

-- numbers, each as 4 bytes
abbrev pub numbers_bytes : List ℕ → List ℕ
numbers_bytes ns = concat (map (bytes_of 4) ns)

-- a record as 6 bytes: whether it is held, the id, the type
abbrev pub fields_bytes : ℕ → ℕ → ℕ → List ℕ
fields_bytes held id t = held ∷ (bytes_of 4 id ++ (t ∷ []))

abbrev pub record_bytes : Record → List ℕ
record_bytes Free = fields_bytes 0 0 0
record_bytes (Held i q) = fields_bytes 1 i q.type_number

abbrev pub records_bytes : List Record → List ℕ
records_bytes rs = concat (map record_bytes rs)
