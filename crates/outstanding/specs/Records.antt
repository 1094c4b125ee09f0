-- Lists of records, and the map from id to request that a table is, seen from outside. Nothing here knows how long a table is.
use Rattle.std.specs.Prelude.{ℕ, suc, Bool, true, false, not, cond, ◌&&◌, ◌||◌, List, [], ◌∷◌, eqb}
use Rattle.std.proofs.Math.Option.{Option, none, some}
use Rattle.outstanding_records.specs.declared.Request.{Request}
use Rattle.outstanding_records.specs.declared.Record.{Record}
use Rattle.outstanding_records.specs.declared.Record.TheVariants.{Free, Held}

abbrev pub is_free : Record → Bool
is_free Free = true
is_free (Held i q) = false

abbrev pub holds_id : ℕ → Record → Bool
holds_id i Free = false
holds_id i (Held j q) = eqb j i

-- ---- lists of anything

-- p holds of some element; of all
abbrev pub any : {A : Type 0} → (A → Bool) → List A → Bool
any p [] = false
any p (x ∷ xs) = p x || any p xs

abbrev pub all : {A : Type 0} → (A → Bool) → List A → Bool
all p [] = true
all p (x ∷ xs) = p x && all p xs

-- the first element of which p holds becomes y
abbrev pub replace : {A : Type 0} → (A → Bool) → A → List A → List A
replace p y [] = []
replace p y (x ∷ xs) = cond (p x) (y ∷ xs) (x ∷ replace p y xs)

-- where the first element stands of which p holds; behind the last where there is none
abbrev pub first : {A : Type 0} → (A → Bool) → List A → ℕ
first p [] = 0
first p (x ∷ xs) = cond (p x) 0 (suc (first p xs))

-- ---- the map

-- both hold one id
abbrev pub same_id : Record → Record → Bool
same_id Free r = false
same_id (Held i q) r = holds_id i r

-- no id is held twice
abbrev pub distinct : List Record → Bool
distinct [] = true
distinct (r ∷ l) = not (any (same_id r) l) && distinct l

-- the request of an outstanding id
abbrev pub lookup : List Record → ℕ → Option Request
lookup [] i = none
lookup (Free ∷ l) i = lookup l i
lookup (Held j q ∷ l) i = cond (eqb j i) (some q) (lookup l i)

-- the outstanding ids, in the order of the records
abbrev pub ids : List Record → List ℕ
ids [] = []
ids (Free ∷ l) = ids l
ids (Held i q ∷ l) = i ∷ ids l

-- an id is among these; each of these stands there once
abbrev pub is_in : ℕ → List ℕ → Bool
is_in i is = any (λ j. eqb j i) is

abbrev pub once : List ℕ → Bool
once [] = true
once (i ∷ is) = not (is_in i is) && once is

-- there is a request
abbrev pub is_some : Option Request → Bool
is_some none = false
is_some (some q) = true
