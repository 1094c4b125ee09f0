-- The type of a message is the byte at its place. Assumes nothing.
use mathlib.Core.Path.{◌≡◌}
use mathlib.Core.List.{List, [], ◌∷◌}
use Prim.Native.Nat.{ℕ, ◌≤◌, ◌<◌}
use native.Mathlib.Omega.{arith}
use lib.ListN.{length, get_or, drop_of_length-le}
use lib.Seq.{drop-cons}
use Rattle.number.specs.BigEndian.{be}
use Rattle.layout.specs.Front.{type_of}

single : (b : ℕ) → b ≡ be (b ∷ [])
unfolding be
single b = omega arith

pub type-none : (m : List ℕ) → length m ≤ 4 → 0 ≡ type_of m
unfolding be
type-none m h = rw (drop_of_length-le m {i = 4} h)

pub type-byte : (m : List ℕ) → 4 < length m → get_or m 4 0 ≡ type_of m
type-byte m h = rw (drop-cons m 4 0 h) (single (get_or m 4 0))
