-- How a writer begins and ends.
use Rattle.std.specs.Prelude.{ℕ, ◌≡◌, Bool, cond, List, eqb, leb}
use Rattle.std.specs.Borrow.{MutBor}
use Rattle.layout.specs.Refusals.{oversize, malformed_text, buffer_too_small}
use Rattle.layout.specs.Limits.{longest}
use Rattle.layout.specs.Writing.{Told, stored, refused, WriteOutcome}
use Rattle.wire.specs.declared.Cursor.{Cursor}
use Rattle.wire.specs.Cursors.{place, refusal}
use Rattle.message_writer.specs.declared.Written.{Written}
use Rattle.message_writer.specs.declared.Written.TheVariants.{Stored, Refused}

-- where a message of `size` bytes is stored from: the start of a buffer of n bytes, or the refusal of what is checked before.
-- `text_right`: its texts are well-formed. These are the last checks of layout's `write`, as the law `wrote` shows
unfoldable pub admitted : Bool → ℕ → ℕ → Cursor
admitted text_right size n =
    cond text_right (cond (leb size longest) (cond (leb size n) (place 0) (refusal buffer_too_small)) (refusal oversize)) (refusal malformed_text)

-- what a writer tells when it ends at this cursor
abbrev pub told_at : Cursor → Told
told_at c = cond (eqb c.code 0) (stored c.at) (refused c.code c.at)

-- what an answer tells
abbrev pub told_of : Written → Told
told_of (Stored n) = stored n
told_of (Refused n p) = refused n p

-- r is the answer of a writer that ends at c
pub record Ends (c : Cursor) (r : Written) : Type 0 where
  pub is : told_of r ≡ told_at c

-- a writer that left the buffer n and answered r did what w says
pub record Wrote (w : WriteOutcome) (n : List ℕ) (r : Written) : Type 0 where
  pub tells : told_of r ≡ w.told
  pub leaves : n ≡ w.buffer

-- the same of a lent buffer, before and afterwards
abbrev pub Writes : (List ℕ → WriteOutcome) → MutBor (List ℕ) → MutBor (List ℕ) → Written → Type 0
Writes w before after r = Wrote (w before.now) after.now r
