-- Where text breaks, as a claim about answers: what a reader answered, and the string that was found.
use Rattle.std.specs.Prelude.{ℕ, ◌-◌, ◌≤◌, ◌≡◌, cond, List, ltb, eqb, length}
use Rattle.number.specs.BigEndian.{Found, whole, truncated as too_few, number_at}
use Rattle.layout.specs.Kinds.{u32, width}
use Rattle.layout.specs.Refusals.{malformed_text}
use Rattle.layout.specs.Limits.{longest}
use Rattle.layout.specs.Table.{Side, plan}
use Rattle.layout.specs.Values.{Part, part}
use Rattle.layout.specs.Reading.{Answer, refused, accepted, read}
use Rattle.layout.specs.Parts.{nothing}
use Rattle.layout.specs.Front.{type_of}
use Rattle.layout.specs.MalformedText.{ReachesIn, BreaksAt, Malformed}

-- the place of the refusal with this number, 0 where the answer is another
abbrev pub place_of : ℕ → Answer → ℕ
place_of c (refused n p) = cond (eqb n c) p 0
place_of c (accepted s i t vs k) = 0

-- the bytes from p on, as many as the number before them says; nothing where no number stands there
abbrev pub counted : ℕ → Found → Part
counted p (whole n) = part p n
counted p too_few = nothing

abbrev pub string_from : List ℕ → ℕ → Part
string_from m p = cond (ltb p (width u32)) nothing (counted p (number_at (width u32) m (p - width u32)))

-- the message m was answered so, and the string x was found
pub record FindsText (side : Side) (m : List ℕ) (a : Answer) (x : Part) : Type 0 where
  pub reads : a ≡ read side m
  -- malformed text: x is a string that reading comes to, and breaks at the place of the refusal
  pub breaks : {q : ℕ} → a ≡ refused malformed_text q → Malformed side m q x
  -- any other answer: no string
  pub none : ((q : ℕ) → a ≡ refused malformed_text q → ⊥) → x ≡ nothing
  -- and in a message that is not oversize, no string that reading comes to breaks untold
  pub told : {y : Part} {q : ℕ} → length m ≤ longest → ReachesIn m (plan side (type_of m)) y → BreaksAt m y q → a ≡ refused malformed_text q
