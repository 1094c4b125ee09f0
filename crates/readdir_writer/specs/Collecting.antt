-- Names copied out of a message: their bytes as one run, and their lengths as a list.
use Rattle.std.specs.Prelude.{ℕ, ◌≤◌, ◌≡◌, ◌&&◌, cond, List, ◌++◌, map, leb, length, drop}
use Rattle.std.specs.Borrow.{MutBor}
use Rattle.layout.specs.Refusals.{buffer_too_small}
use Rattle.layout.specs.Values.{Part, bytes_in}
use Rattle.layout.specs.Reading.{Outcome, got, fail}
use Rattle.layout.specs.Names.{position, first_name, steps}
use Rattle.layout.specs.Writing.{sum}
use Rattle.field_writer.specs.Stored.{concat}
use Rattle.readdir_writer.specs.declared.Next.{Next}
use Rattle.readdir_writer.specs.declared.Next.TheVariants.{Name, End}
use Rattle.readdir_writer.specs.declared.Collected.{Collected}
use Rattle.readdir_writer.specs.declared.Collected.TheVariants.{Copied, Refused}

-- the name that was read at a place, or none
abbrev pub next_of : Outcome Part → Next
next_of (got x q) = Name x.start x.size
next_of (fail n p) = End

-- the names that the iterator gives where so many are left
abbrev pub names_in : List ℕ → ℕ → List Part
names_in m n = steps n m (position first_name n)

-- the lengths of names
abbrev pub sizes : List Part → List ℕ
sizes xs = map (λ x. x.size) xs

-- their bytes, one behind the other
abbrev pub joined : List ℕ → List Part → List ℕ
joined m xs = concat (map (bytes_in m) xs)

-- a lent buffer is too small
abbrev pub no_room : Collected
no_room = Refused buffer_too_small 0

-- what collecting names of these lengths answers, with room for `room` bytes and `most` lengths
unfoldable pub counted : List ℕ → ℕ → ℕ → Collected
counted ns room most = cond (leb (sum ns) room && leb (length ns) most) (Copied (length ns) (sum ns)) no_room

-- both lent buffers
pub record Buffers : Type 0 where
  pub run : List ℕ
  pub lengths : List ℕ

abbrev pub buffers : List ℕ → List ℕ → Buffers
buffers s ns = record { run = s; lengths = ns }

-- what they hold
abbrev pub lent : MutBor (List ℕ) → MutBor (List ℕ) → Buffers
lent run lengths = buffers run.now lengths.now

-- the names xs of m in front of what stays of the buffers; of a refusal, these are as before
abbrev pub filled : List ℕ → List Part → Buffers → Collected → Buffers
filled m xs b (Copied count len) = buffers (joined m xs ++ drop len b.run) (sizes xs ++ drop count b.lengths)
filled m xs b (Refused n p) = b

-- the names xs of m were collected into b: the answer is r, and the buffers are d
pub record Collects (m : List ℕ) (xs : List Part) (b d : Buffers) (r : Collected) : Type 0 where
  pub answers : r ≡ counted (sizes xs) (length b.run) (length b.lengths)
  pub leaves : d ≡ filled m xs b r

-- both buffers have room for names of these lengths
pub record RoomFor (ns : List ℕ) (b : Buffers) : Type 0 where
  pub bytes : sum ns ≤ length b.run
  pub count : length ns ≤ length b.lengths

-- all the names xs of m were copied into b
pub record Copies (m : List ℕ) (xs : List Part) (b d : Buffers) : Type 0 where
  pub is : d ≡ filled m xs b (Copied (length (sizes xs)) (sum (sizes xs)))
