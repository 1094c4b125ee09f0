-- What the answers of each width say.
use Rattle.number.specs.BigEndian.{Found, whole, truncated}
use Rattle.number.specs.declared.ReadU8.{ReadU8}
use Rattle.number.specs.declared.ReadU8.TheVariants as U8
use Rattle.number.specs.declared.ReadU32.{ReadU32}
use Rattle.number.specs.declared.ReadU32.TheVariants as U32
use Rattle.number.specs.declared.ReadU64.{ReadU64}
use Rattle.number.specs.declared.ReadU64.TheVariants as U64

abbrev pub found_u8 : ReadU8 → Found
found_u8 (U8.Whole x) = whole x
found_u8 U8.Truncated = truncated

abbrev pub found_u32 : ReadU32 → Found
found_u32 (U32.Whole x) = whole x
found_u32 U32.Truncated = truncated

abbrev pub found_u64 : ReadU64 → Found
found_u64 (U64.Whole x) = whole x
found_u64 U64.Truncated = truncated
