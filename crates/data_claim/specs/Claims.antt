-- Demand 2: a reply to a read never claims a number of bytes other than the number it carries.
use Rattle.std.specs.Prelude.{ℕ, ◌≡◌, List, [], ◌∷◌, ℤ, pos, length, take}
use Rattle.method.specs.declared.Method.TheVariants.{Read}
use Rattle.method.specs.Methods.{reply_number}
use Rattle.layout.specs.Table.{reply}
use Rattle.layout.specs.Values.{Part, signed, run, bytes_in}
use Rattle.layout.specs.Reading.{success, accepted, read}
use Rattle.layout.specs.Parts.{part_named}
use Rattle.layout.specs.Writing.{stored}
use Rattle.wire.specs.declared.Run.{Run}
use Rattle.wire.specs.Runs.{shown}
use Rattle.message_writer.specs.Writers.{told_of, Wrote}
use Rattle.reply_writer.specs.Replying.{replying}
use Rattle.reply_reader.specs.declared.Reply.TheVariants as R
use Rattle.reply_reader.specs.declared.ReplyAnswer.TheVariants as A
use Rattle.reply_reader.specs.Answers.{answer_of}
use Rattle.data_claim.specs.declared.Carried.{Carried}
use Rattle.data_claim.specs.declared.Claimed.{Claimed}

-- the message m was answered so, and its data showed so many bytes
pub record Carries (m : List ℕ) (r : Carried) : Type 0 where
  pub reads : answer_of m r.answer ≡ read reply m
  pub carries : r.len ≡ length (shown m (part_named reply "data" (answer_of m r.answer)))
  -- the result of a successful read reply is that number
  pub claims : {i k : ℕ} {z : ℤ} {x : Run} → r.answer ≡ A.Success i z (R.Read x) k → z ≡ pos r.len

-- the reply m is read as a success of read with the id i and the result z, n bytes are known, and its data is d: z is the number of its
-- bytes, and so many are shown
pub record ReadReply (i : ℕ) (z : ℤ) (d m : List ℕ) (n : ℕ) (r : Carried) : Type 0 where
  pub content : Part
  pub is : answer_of m r.answer ≡ accepted success i (reply_number Read) (signed z ∷ run content ∷ []) n
  pub bytes : bytes_in m content ≡ d
  pub claims : z ≡ pos (length d)
  pub carries : r.len ≡ length d

-- a reply with these values was written into out, which became after, and what was stored of it is read so
pub record ClaimsGiven (i : ℕ) (z : ℤ) (d out after : List ℕ) (r : Claimed) : Type 0 where
  pub wrote : Wrote (replying Read i (signed z ∷ run d ∷ []) out) after r.written
  pub is : {n : ℕ} → told_of r.written ≡ stored n → ReadReply i z d (take n after) n r.carried
