-- The sizes that bound a message: its header, and the longest message.
use Rattle.std.specs.Prelude.{ℕ}

-- the bytes of the header: id and type
abbrev pub header_size : ℕ
header_size = 5

-- the bytes of the longest message
abbrev pub longest : ℕ
longest = 65536
