-- A message as it is written again: its known part, where a bool byte above 1 has become 1.
use Rattle.std.specs.Prelude.{ℕ, ◌+◌, Bool, true, false, not, ◌&&◌, cond, List, [], ◌∷◌, ◌++◌, map, eqb, take, drop}
use Rattle.layout.specs.Kinds.{u8, i8, u32, i32, u64, bool, Kind, num, string, bytes, strings}
use Rattle.layout.specs.Limits.{header_size}
use Rattle.layout.specs.Table.{Side, plan}
use Rattle.layout.specs.Values.{Part, Value}
use Rattle.layout.specs.Reading.{Shape}
use Rattle.layout.specs.Pieces.{total, field_pieces, kinds_of}
use Rattle.layout.specs.Writing.{bit}

abbrev pub is_bool : Kind → Bool
is_bool (num u8) = false
is_bool (num i8) = false
is_bool (num u32) = false
is_bool (num i32) = false
is_bool (num u64) = false
is_bool (num bool) = true
is_bool string = false
is_bool bytes = false
is_bool strings = false

abbrev pub no_bool : List Kind → Bool
no_bool [] = true
no_bool (k ∷ ks) = not (is_bool k) && no_bool ks

-- the bytes of a field as they are written again
abbrev pub normal : Kind → List ℕ → List ℕ
normal k bs = cond (is_bool k) (map (λ b. bit (not (eqb b 0))) bs) bs

-- field by field, from place p of m on
abbrev pub normal_all : List Kind → List (Value Part) → List ℕ → ℕ → List ℕ
normal_all [] vs m p = []
normal_all (k ∷ ks) [] m p = []
normal_all (k ∷ ks) (v ∷ vs) m p =
    normal k (take (total (field_pieces k v p)) (drop p m)) ++ normal_all ks vs m (p + total (field_pieces k v p))

unfoldable pub normalised : Side → Shape → ℕ → List (Value Part) → List ℕ → List ℕ
normalised side s t vs m = take header_size m ++ normal_all (kinds_of (plan side t) s) vs m header_size
