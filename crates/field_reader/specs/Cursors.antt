-- What reading at a cursor means.
use Rattle.std.specs.Prelude.{ℕ, ◌≡◌, cond, List, [], ◌∷◌, eqb}
use Rattle.layout.specs.Kinds.{Kind, num, string, bytes, strings}
use Rattle.layout.specs.Values.{Part, part, Value, run, runs}
use Rattle.layout.specs.Reading.{Outcome, got, fail, Reader, value_of, field_at}
use Rattle.wire.specs.declared.Cursor.{Cursor}

-- a reading that gave a and left this cursor: of a refused cursor, the refusal
abbrev pub outcome_at : {A : Type 0} → Cursor → A → Outcome A
outcome_at c a = cond (eqb c.code 0) (got a c.at) (fail c.code c.at)

-- a reader at a cursor: of a refused cursor, the refusal
abbrev pub from : {A : Type 0} → Cursor → Reader A → List ℕ → Outcome A
from c r m = cond (eqb c.code 0) (r m c.at) (fail c.code c.at)

-- the reader r at c gave a and left d; where d is a refusal, a is the empty value e
pub record Ended {A : Type 0} (m : List ℕ) (c : Cursor) (r : Reader A) (e a : A) (d : Cursor) : Type 0 where
  pub is : outcome_at d a ≡ from c r m
  pub empty : (d.code ≡ 0 → ⊥) → a ≡ e

-- the value of a field that was refused: 0, false, no bytes, no names
abbrev pub empty_of : Kind → Value Part
empty_of (num k) = value_of k 0
empty_of string = run (part 0 0)
empty_of bytes = run (part 0 0)
empty_of strings = runs []

-- the field of kind k at c has the value v, and d is behind it
abbrev pub Took : List ℕ → Cursor → Kind → Value Part → Cursor → Type 0
Took m c k v d = Ended m c (field_at k) (empty_of k) v d

-- the fields of these kinds at c have these values, and the last cursor is behind them
pub data Reads (m : List ℕ) : Cursor → List Kind → List (Value Part) → Cursor → Type 0 where
  none : {c : Cursor} → Reads m c [] [] c
  more : {c d e : Cursor} {k : Kind} {ks : List Kind} {v : Value Part} {vs : List (Value Part)} → Took m c k v d → Reads m d ks vs e → Reads m c (k ∷ ks) (v ∷ vs) e
