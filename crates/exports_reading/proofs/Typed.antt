-- The type of a message is the type of the answer where the message is accepted. Assumes nothing.
use mathlib.Core.Path.{◌≡◌, refl, ap}
use mathlib.Core.List.{List}
use Prim.Native.Nat.{ℕ}
use Rattle.layout.specs.Table.{Side}
use Rattle.layout.specs.Reading.{Answer, refused, accepted, read}
use Rattle.layout.specs.Front.{type_of}
use Rattle.layout.proofs.Trace.{message-traced}
use Rattle.exports_reading.specs.Typed.{typed}

pub same-type : (side : Side) (m : List ℕ) → typed (type_of m) (read side m) ≡ read side m
same-type side m = go (read side m) refl
  where
    go : (a : Answer) → read side m ≡ a → typed (type_of m) a ≡ a
    go (refused n p) e = refl
    go (accepted s i t vs k) e = ap (λ (u : ℕ). accepted s i u vs k) (message-traced e).type.is
