-- A type that no method has is refused as a known request, and nothing is stored. Assumes nothing.
use mathlib.Core.Path.{refl}
use mathlib.Core.List.{List, map, reverse}
use Prim.Native.Nat.{ℕ}
use Rattle.method.specs.Methods.{methods, request_number}
use Rattle.method.proofs.Table.{NoneOf, request-unknown}
use Rattle.layout.specs.Refusals.{unexpected_type}
use Rattle.layout.specs.Table.{plan}
use Rattle.layout.specs.Writing.{write}
use Rattle.message_writer.specs.declared.Written.TheVariants.{Refused}
use Rattle.message_writer.specs.Writers.{Wrote}
use Rattle.exports.specs.Given.{request_by}

pub no-request : (i t : ℕ) (ns s u l : List ℕ) → NoneOf (reverse (map request_number methods)) t → Wrote (request_by i t ns s u l) l (Refused unexpected_type 0)
unfolding request_by plan write
no-request i t ns s u l n = rw (request-unknown t n) (record { tells = refl; leaves = refl })
