-- The names iterator over a readdir reply (document 01: walker).
use Rattle.std.specs.Prelude.{ℕ, zero, suc, ◌+◌, List, [], ◌∷◌, length}
use Rattle.layout.specs.Kinds.{u32, width}
use Rattle.layout.specs.Table.{reply}
use Rattle.layout.specs.Values.{Part, part, Value, runs_of}
use Rattle.layout.specs.Reading.{Outcome, got, fail, fields_place, Answer, refused, accepted, read, bytes_at}

-- names stand right behind a result
abbrev pub names_among : List (Value Part) → List Part
names_among [] = []
names_among (r ∷ []) = []
names_among (r ∷ v ∷ vs) = runs_of v

-- the names of a reply, as its reading has them: none on any other message
abbrev pub names_of : Answer → List Part
names_of (refused n p) = []
names_of (accepted s i t vs k) = names_among vs

-- where the next name begins, and how many are left
pub record Position : Type 0 where
  pub at : ℕ
  pub left : ℕ

abbrev pub position : ℕ → ℕ → Position
position p n = record { at = p; left = n }

-- behind header, result and count
abbrev pub first_name : ℕ
first_name = fields_place + width u32

-- the start on any message
unfoldable pub opened : List ℕ → Position
opened m = position first_name (length (names_of (read reply m)))

-- the next name and where to go on; or no name, and the position stays
pub data Step : Type 0 where
  name : Part → Position → Step
  ended : Position → Step

abbrev pub stepped : Position → ℕ → Outcome Part → Step
stepped w n (got x q) = name x (position q n)
stepped w n (fail c p) = ended w

abbrev pub step_by : List ℕ → ℕ → ℕ → Step
step_by m p zero = ended (position p zero)
step_by m p (suc n) = stepped (position p (suc n)) n (bytes_at m p)

-- a step from any position, also one that was made up. The text of a name was checked when the message was read
unfoldable pub step : List ℕ → Position → Step
step m w = step_by m w.at w.left

abbrev pub name_or : Outcome Part → Part
name_or (got x q) = x
name_or (fail c r) = part 0 0

abbrev pub behind_name : ℕ → Outcome Part → ℕ
behind_name p (got x q) = q
behind_name p (fail c r) = p

-- so many names from place p on. For one that does not fit stands a part that no name has, so n names are always n
abbrev pub names_at : ℕ → List ℕ → ℕ → List Part
names_at zero m p = []
names_at (suc n) m p = name_or (bytes_at m p) ∷ names_at n m (behind_name p (bytes_at m p))

abbrev pub gather : {A : Type 0} → Step → (Part → Position → A) → (Position → A) → A
gather (name x w) f g = f x w
gather (ended w) f g = g w

-- the names that n steps give, one after another
abbrev pub steps : ℕ → List ℕ → Position → List Part
steps zero m w = []
steps (suc n) m w = gather (step m w) (λ x v. x ∷ steps n m v) (λ v. steps n m v)
