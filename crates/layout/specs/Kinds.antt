-- Field kinds, and the fields that stand together under one name (document 01, "Field kinds").
use Rattle.std.specs.Prelude.{ℕ, List, [], ◌∷◌, ◌++◌, map}
use Prim.Native.String.{String}

infix 80 ◌is◌
-- the numbers; all are big-endian, i8 and i32 two's complement, bool one byte
pub data Num : Type 0 where
  u8 i8 u32 i32 u64 bool : Num

-- a width, in bytes
abbrev pub width : Num → ℕ
width u8 = 1
width i8 = 1
width u32 = 4
width i32 = 4
width u64 = 8
width bool = 1

-- string: a u32 length, then so many bytes of well-formed text; bytes: the same of any bytes; strings: a u32 count, then so many strings
pub data Kind : Type 0 where
  num : Num → Kind
  string bytes strings : Kind

-- a field, with the name that listings show
pub record Field : Type 0 where
  pub name : String
  pub kind : Kind

abbrev pub ◌is◌ : String → Kind → Field
◌is◌ n k = record { name = n; kind = k }

abbrev pub kinds : List Field → List Kind
kinds fs = map (λ f. f.kind) fs

abbrev timestamp : String → String → List Field
timestamp seconds nsec = seconds is num u64 ∷ nsec is num u32 ∷ []

-- the kinds of a timestamp's members
abbrev pub time_kinds : List Kind
time_kinds = kinds (timestamp "seconds" "nsec")

abbrev pub atime : List Field
atime = timestamp "atime" "atime.nsec"

abbrev pub mtime : List Field
mtime = timestamp "mtime" "mtime.nsec"

abbrev pub ctime : List Field
ctime = timestamp "ctime" "ctime.nsec"

abbrev pub attributes : List Field
attributes =
    "inode" is num u64
    ∷ "nlink" is num u64
    ∷ "mode" is num u32
    ∷ "uid" is num u32
    ∷ "gid" is num u32
    ∷ "rdev" is num u64
    ∷ "size" is num u64
    ∷ "blocks" is num u64
    ∷ atime ++ mtime ++ ctime

abbrev pub statistics : List Field
statistics =
    "bsize" is num u64
    ∷ "frsize" is num u64
    ∷ "blocks" is num u64
    ∷ "bfree" is num u64
    ∷ "bavail" is num u64
    ∷ "files" is num u64
    ∷ "ffree" is num u64
    ∷ "namemax" is num u64
    ∷ []
