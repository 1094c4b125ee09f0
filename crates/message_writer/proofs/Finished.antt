-- What a writer's answer says of the buffer, from what it promises (`Wrote`), for both sides and every shape. Assumes nothing.
use mathlib.Core.Path.{◌≡◌, sym, ap, ◌∙◌}
use mathlib.Core.Bool.{Bool, true, false}
use mathlib.Core.List.{List, ◌++◌}
use Prim.Native.Nat.{ℕ, ◌≤◌}
use native.Mathlib.Omega.{arith}
use lib.ListN.{length, drop, length-append}
use Rattle.layout.specs.Table.{Side}
use Rattle.layout.specs.Values.{Value}
use Rattle.layout.specs.Reading.{Shape}
use Rattle.layout.specs.Writing.{stored, length_of, encode_message, write}
use Rattle.layout.proofs.Tests.{apart}
use Rattle.layout.proofs.Written.{write-finished, write-untouched}
use Rattle.message_writer.specs.declared.Written.{Written}
use Rattle.message_writer.specs.declared.Written.TheVariants.{Stored, Refused}
use Rattle.message_writer.specs.Writers.{told_of, Wrote}

module _ (side : Side) (s : Shape) (i t : ℕ) where
  -- behind what a writer finished, the buffer is as before
  pub rest-kept : (vs : List (Value (List ℕ))) (summed : Bool) (out : List ℕ) {after : List ℕ} {n : ℕ}
      → Wrote (write side s i t vs summed out) after (Stored n) → after ≡ encode_message side s i t vs ++ drop n out
  rest-kept vs summed out w = w.leaves ∙ (write-finished side s i t vs summed out (sym w.tells)).finished.buffer

  -- what a writer refused, it left as it was
  pub refused-kept : (vs : List (Value (List ℕ))) (summed : Bool) (out : List ℕ) {after : List ℕ} {n p : ℕ}
      → Wrote (write side s i t vs summed out) after (Refused n p) → (p ≡ 0) × (after ≡ out)
  refused-kept vs summed out w =
      let u = (write-untouched side s i t vs summed out).keeps (sym w.tells) in
      (u.0, w.leaves ∙ u.1)

  -- the reported bytes lie inside the buffer
  pub length-inside : (vs : List (Value (List ℕ))) (summed : Bool) (out : List ℕ) {after : List ℕ} (r : Written)
      → Wrote (write side s i t vs summed out) after r → length_of (told_of r) ≤ length after
  length-inside vs summed out {after} (Stored n) w =
      let f = (write-finished side s i t vs summed out (sym w.tells)).finished in
      omega (arith, f.size, ap length (rest-kept vs summed out w), length-append (encode_message side s i t vs) (drop n out))
  length-inside vs summed out (Refused n p) w = omega arith

-- an answer that tells so is so
pub stored-told : (r : Written) {k : ℕ} → told_of r ≡ stored k → r ≡ Stored k
stored-told (Stored n) e = cc
stored-told (Refused n p) e = let z : false ≡ true = cc in apart z
