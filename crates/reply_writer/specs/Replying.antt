-- What writing a reply means.
use Rattle.std.specs.Prelude.{ℕ, ◌+◌, Bool, true, not, cond, List, [], ◌∷◌, ◌++◌, ℤ, pos, length}
use Rattle.std.specs.Int.Signed.{lt_z}
use Rattle.number.specs.BigEndian.{bytes_of}
use Rattle.number.specs.TwosComplement.{bits_of}
use Rattle.method.specs.declared.Method.{Method}
use Rattle.method.specs.Methods.{reply_number}
use Rattle.layout.specs.Refusals.{malformed_text, data_length_mismatch, result_sign}
use Rattle.layout.specs.Table.{reply}
use Rattle.layout.specs.Values.{Value}
use Rattle.layout.specs.Reading.{success}
use Rattle.layout.specs.Writing.{WriteOutcome, write}
use Rattle.wire.specs.declared.Cursor.{Cursor}
use Rattle.field_writer.specs.Stored.{Puts}
use Rattle.wire.specs.Cursors.{refusal}
use Rattle.message_writer.specs.Writers.{admitted}

-- the success of a method with this id and these values, the result first where it has one, in this buffer
abbrev pub replying : Method → ℕ → List (Value (List ℕ)) → List ℕ → WriteOutcome
replying m i vs out = write reply success i (reply_number m) vs true out

-- where a success with the result z is stored from: the start of a buffer of n bytes, or the first refusal.
-- `text_right`: its text is well-formed; `counted`: its result is the length of its data. Both hold where it has none.
-- These are the checks of layout's `write` for a success, as the laws `numbers-reply` and `run-reply` show
unfoldable pub allowed : ℤ → Bool → Bool → ℕ → ℕ → Cursor
allowed z text_right counted size n =
    cond (not (lt_z z (pos 0)))
    (cond text_right (cond counted (admitted true size n) (refusal data_length_mismatch)) (refusal malformed_text))
    (refusal result_sign)

-- the header and the result of a success of so many bytes, stored where it passes the checks
pub record SuccessStarted (text_right counted : Bool) (size : ℕ) (l : List ℕ) (i t : ℕ) (z : ℤ) (m : List ℕ) (d : Cursor) : Type 0 where
  pub is : Puts l (allowed z text_right counted size (length l)) ((bytes_of 4 i ++ bytes_of 1 t) ∷ bytes_of 4 (bits_of 4 z) ∷ []) m d
