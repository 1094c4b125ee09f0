-- A type that has no success is refused as one, and nothing is stored. Assumes nothing.
use mathlib.Core.Path.{◌≡◌, refl}
use mathlib.Core.Bool.{Bool, true, false, cond}
use mathlib.Core.List.{List, map, reverse}
use Prim.Native.Nat.{ℕ}
use lib.Dec.{eqb}
use lib.IntN.{ℤ}
use Rattle.method.specs.Methods.{methods, reply_number}
use Rattle.method.proofs.Table.{NoneOf, reply-unknown}
use Rattle.layout.specs.Refusals.{unexpected_type}
use Rattle.layout.specs.Table.{reply, unknown_response, unexpected, header, plan}
use Rattle.layout.specs.Writing.{write}
use Rattle.message_writer.specs.declared.Written.TheVariants.{Refused}
use Rattle.message_writer.specs.Writers.{Wrote}
use Rattle.exports.specs.Given.{success_by}

planned : (t : ℕ) → NoneOf (reverse (map reply_number methods)) t → plan reply t ≡ cond (eqb t unknown_response) header unexpected
unfolding plan
planned t n = rw (reply-unknown t n)

-- neither the unknown response nor a type without a method has a success
bare : (b : Bool) (i t : ℕ) (z : ℤ) (ns s ls l : List ℕ) → plan reply t ≡ cond b header unexpected → Wrote (success_by i t z ns s ls l) l (Refused unexpected_type 0)
unfolding success_by write
bare true i t z ns s ls l e = rw e (record { tells = refl; leaves = refl })
bare false i t z ns s ls l e = rw e (record { tells = refl; leaves = refl })

pub no-success : (i t : ℕ) (z : ℤ) (ns s ls l : List ℕ) → NoneOf (reverse (map reply_number methods)) t → Wrote (success_by i t z ns s ls l) l (Refused unexpected_type 0)
no-success i t z ns s ls l n = bare (eqb t unknown_response) i t z ns s ls l (planned t n)
