-- The pieces of an accepted message: the place and size of each of its numbers and runs, by its layout and values alone.
use Rattle.std.specs.Prelude.{ℕ, ◌+◌, ◌≤◌, ◌≡◌, Bool, cond, List, [], ◌∷◌, ◌++◌, leb, ltb, length, take}
use Rattle.layout.specs.Kinds.{i32, width, Kind, num, string, bytes, strings}
use Rattle.layout.specs.Refusals.{truncated_header, truncated}
use Rattle.layout.specs.Limits.{header_size}
use Rattle.layout.specs.Table.{Side, Plan, unexpected, header, asked, plain, led, plan}
use Rattle.layout.specs.Values.{Part, part, Value, run_of, runs_of}
use Rattle.layout.specs.Reading.{Shape, unknown, known, failure, success, Answer, refused}

-- the sum of the sizes
unfoldable pub total : List Part → ℕ
total [] = 0
total (x ∷ xs) = x.size + total xs

-- a length at p, and the n bytes that it counts
abbrev pub sized_pieces : ℕ → ℕ → List Part
sized_pieces p n = part p 4 ∷ part (p + 4) n ∷ []

abbrev pub strings_pieces : List Part → ℕ → List Part
strings_pieces [] p = []
strings_pieces (x ∷ xs) p = sized_pieces p x.size ++ strings_pieces xs (p + 4 + x.size)

abbrev pub field_pieces : Kind → Value Part → ℕ → List Part
field_pieces (num k) v p = part p (width k) ∷ []
field_pieces string v p = sized_pieces p (run_of (part 0 0) v).size
field_pieces bytes v p = sized_pieces p (run_of (part 0 0) v).size
field_pieces strings v p = part p 4 ∷ strings_pieces (runs_of v) (p + 4)

abbrev pub fields_pieces : List Kind → List (Value Part) → ℕ → List Part
fields_pieces [] vs p = []
fields_pieces (k ∷ ks) [] p = []
fields_pieces (k ∷ ks) (v ∷ vs) p = field_pieces k v p ++ fields_pieces ks vs (p + total (field_pieces k v p))

-- the kinds of what follows the header, the result's among them
abbrev pub kinds_of : Plan → Shape → List Kind
kinds_of unexpected s = []
kinds_of header s = []
kinds_of (asked ks) s = ks
kinds_of (plain ks) s = ks
kinds_of (led c ks) unknown = []
kinds_of (led c ks) known = []
kinds_of (led c ks) failure = num i32 ∷ []
kinds_of (led c ks) success = num i32 ∷ ks

-- all pieces of a message of this type and shape, the header's too
unfoldable pub pieces : Side → Shape → ℕ → List (Value Part) → List Part
pieces side s t vs = part 0 4 ∷ part 4 1 ∷ fields_pieces (kinds_of (plan side t) s) vs header_size

-- where the first piece begins that does not lie whole in the first j bytes; 0 where all do, which no cut meets
abbrev pub first_broken : ℕ → List Part → ℕ
first_broken j [] = 0
first_broken j (x ∷ xs) = cond (leb (x.start + x.size) j) (first_broken j xs) x.start

-- the refusal of the first j bytes of a message with these pieces
unfoldable pub cut_answer : ℕ → List Part → Answer
cut_answer j ps = cond (ltb j header_size) (refused truncated_header 0) (refused truncated (first_broken j ps))

-- the first q bytes of m stand at the front of m' too
pub record Agree (q : ℕ) (m m' : List ℕ) : Type 0 where
  pub same : take q m ≡ take q m'
  pub fits : q ≤ length m'
