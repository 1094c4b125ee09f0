-- Text of ASCII characters as bytes, for the names that definitions spell.
use Rattle.std.specs.Prelude.{ℕ, List, [], ◌∷◌}
use Prim.Native.Char.{code}
use Prim.Native.String.{String, [] as no_char, ◌∷◌ as ◌then◌}

-- the bytes of a text of ASCII characters
abbrev pub ascii : String → List ℕ
ascii no_char = []
ascii (c then s) = code c ∷ ascii s
