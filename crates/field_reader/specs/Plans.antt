-- The answer by what follows the header, or the result, of a message. Whoever reads the fields of a plan one after another cites these.
use Rattle.std.specs.Prelude.{ℕ, ◌≡◌, Bool, cond, List, [], eqb, ℤ}
use Rattle.layout.specs.Kinds.{Kind}
use Rattle.layout.specs.Refusals.{data_length_mismatch}
use Rattle.layout.specs.Table.{Plan}
use Rattle.layout.specs.Reading.{got, fail, mapped, Body, behind_result, result_place, body_at, message, Answer, answer}
use Rattle.wire.specs.declared.Cursor.{Cursor}
use Rattle.field_reader.specs.Cursors.{outcome_at, from}

-- the answer for a message with id i and type t that follows the plan p, whose fields, the result among them, stand at c
unfoldable pub plan_answer : List ℕ → Cursor → ℕ → ℕ → Plan → Answer
plan_answer m c i t p = answer (from c (mapped (message i t) (body_at p)) m)

-- the same of a reply with the result z, whose other fields have the kinds ks and stand at c; true: the result is the length of the data
unfoldable pub result_answer : List ℕ → Cursor → ℕ → ℕ → Bool → List Kind → ℤ → Answer
result_answer m c i t counted ks z = answer (from c (mapped (message i t) (behind_result counted ks z)) m)

-- the cursor d behind data of so many bytes, and e after the result n was compared
pub record Compared (d : Cursor) (size n : ℕ) (e : Cursor) : Type 0 where
  pub is : (b : Body) → outcome_at e b ≡ from d (λ m p. cond (eqb n size) (got b p) (fail data_length_mismatch result_place)) []
