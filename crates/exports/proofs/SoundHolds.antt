-- Laws for hosts. Every part of an accepted message lies inside it, and its texts and names are well-formed: what a host needs to show
-- them as text without another check. Of both sides, once over the layout. Assumes nothing.
use mathlib.Core.Path.{◌≡◌, refl, sym, ap, ◌∙◌, subst}
use mathlib.Core.Bool.{Bool, true, false, cond}
use mathlib.Core.List.{List, [], ◌∷◌, ◌++◌}
use Prim.Native.Nat.{ℕ, zero, suc, ◌+◌, ◌≤◌}
use native.Mathlib.Omega.{arith}
use lib.Dec.{leb}
use lib.IntN.{ℤ, pos}
use lib.ListN.{length, take, get_or}
use borrow.Author.Tests.{leb-true}
use Rattle.number.specs.BigEndian.{Found as Number, whole, truncated as too_few, number_at}
use Rattle.text.specs.Utf8.{well_formed}
use Rattle.method.specs.declared.Method.TheVariants.{Readdir}
use Rattle.method.specs.Methods.{reply_number, of_reply}
use Rattle.layout.specs.Kinds.{Num, u8, i8, u32, i32, u64, bool, Kind, num, string, bytes, strings, kinds}
use Rattle.layout.specs.Table.{Side, reply, Plan, unexpected, header, asked, plain, led, plan}
use Rattle.layout.specs.Values.{Part, part, Value, signed, runs, runs_of}
use Rattle.layout.specs.Reading.{Outcome, got, fail, followed, num_outcome, num_at, run_at, any_bytes, bytes_at, value_of, Shape, unknown, known, failure, success, Answer, refused, accepted, read}
use Rattle.layout.specs.Pieces.{kinds_of}
use Rattle.layout.specs.Names.{names_among, names_of, Position, position, first_name, opened, Step, name, ended, stepped, step_by, step, steps}
use Rattle.layout.specs.Refusals.{truncated}
use Rattle.layout.proofs.Tests.{apart}
use Rattle.layout.proofs.Trace.{SizedHere, sized-here, StringsHere, no-string, a-string-more, FieldHere, a-num, a-string, a-bytes, a-strings, FieldsHere, no_field, a-field-more, BodyHere, header-only, an-asked, a-plain, a-failure, a-success, message-traced}
use Rattle.layout.proofs.Iterating.{ended-stays, opened-steps}
use Rattle.exports.specs.Shown.{cells, all_cells, padded, cell_count, shape_number, reading_of}
use Rattle.exports.proofs.Plans.{every-plan}
use Rattle.exports.specs.Sound.{Inside, Text, Sound, no_more, a-number, a-text, some_bytes, some-names, names_met, AllText, no_text, a-text-more}

-- ---- the cells of all fields

module _ {m : List ℕ} where
  text-here : {p : ℕ} {x : Part} → SizedHere well_formed m p x → Text m x.start x.size
  text-here (sized-here h r) = record { fits = r.fits; good = r.good }

  inside-here : {p : ℕ} {x : Part} → SizedHere any_bytes m p x → Inside m x.start x.size
  inside-here (sized-here h r) = record { fits = r.fits }

  -- a number has one cell
  number-sound : (k : Num) (n : ℕ) {ks : List Kind} {cs : List ℕ} → Sound m ks cs → Sound m (num k ∷ ks) (cells (value_of k n) ++ cs)
  number-sound u8 n t = a-number t
  number-sound i8 n t = a-number t
  number-sound u32 n t = a-number t
  number-sound i32 n t = a-number t
  number-sound u64 n t = a-number t
  number-sound bool n t = a-number t

  fields-sound : {ks : List Kind} {p q : ℕ} {vs : List (Value Part)} → FieldsHere m ks p vs q → Sound m ks (all_cells vs)
  fields-sound no_field = no_more
  fields-sound (a-field-more (a-num {k = k} {n = n} h) t) = number-sound k n (fields-sound t)
  fields-sound (a-field-more (a-string h) t) = a-text (text-here h) (fields-sound t)
  fields-sound (a-field-more (a-bytes h) t) = some_bytes (inside-here h) (fields-sound t)
  fields-sound (a-field-more (a-strings h s) t) = some-names (fields-sound t)

  body-sound : {pl : Plan} {p q : ℕ} {s : Shape} {vs : List (Value Part)} → BodyHere m pl p s vs q → Sound m (kinds_of pl s) (all_cells vs)
  body-sound header-only = no_more
  body-sound (an-asked t) = fields-sound t
  body-sound (a-plain t) = fields-sound t
  body-sound (a-failure h e) = a-number no_more
  body-sound (a-success h e t c) = a-number (fields-sound t)

-- ---- they fit into those of an answer

-- how many cells fields of these kinds have
abbrev cells_in : List Kind → ℕ
cells_in [] = 0
cells_in (num k ∷ ks) = suc (cells_in ks)
cells_in (string ∷ ks) = suc (suc (cells_in ks))
cells_in (bytes ∷ ks) = suc (suc (cells_in ks))
cells_in (strings ∷ ks) = suc (suc (cells_in ks))

-- the most that a message of this type has
abbrev most : Plan → ℕ
most unexpected = 0
most header = 0
most (asked ks) = cells_in ks
most (plain ks) = cells_in ks
most (led c ks) = suc (cells_in ks)

abbrev few : Plan → Bool
few pl = leb (most pl) cell_count

-- one test over the table
table-few : (side : Side) (t : ℕ) → few (plan side t) ≡ true
table-few side t = every-plan few refl refl refl refl side t

shape-few : (pl : Plan) (s : Shape) → cells_in (kinds_of pl s) ≤ most pl
shape-few unexpected s = omega arith
shape-few header s = omega arith
shape-few (asked ks) s = omega arith
shape-few (plain ks) s = omega arith
shape-few (led c ks) unknown = omega arith
shape-few (led c ks) known = omega arith
shape-few (led c ks) failure = omega arith
shape-few (led c ks) success = omega arith

kept : {m : List ℕ} {ks : List Kind} {cs : List ℕ} → Sound m ks cs → (n : ℕ) → cells_in ks ≤ n → Sound m ks (padded n cs)
kept no_more n h = no_more
kept (a-number t) zero h = let none : ⊥ = omega arith in absurd none
kept (a-number t) (suc n) h = a-number (kept t n (omega arith))
kept (a-text x t) zero h = let none : ⊥ = omega arith in absurd none
kept (a-text x t) (suc zero) h = let none : ⊥ = omega arith in absurd none
kept (a-text x t) (suc (suc n)) h = a-text x (kept t n (omega arith))
kept (some_bytes x t) zero h = let none : ⊥ = omega arith in absurd none
kept (some_bytes x t) (suc zero) h = let none : ⊥ = omega arith in absurd none
kept (some_bytes x t) (suc (suc n)) h = some_bytes x (kept t n (omega arith))
kept (some-names t) zero h = let none : ⊥ = omega arith in absurd none
kept (some-names t) (suc zero) h = let none : ⊥ = omega arith in absurd none
kept (some-names t) (suc (suc n)) h = some-names (kept t n (omega arith))

-- the cells of a reading
pub reading-sound : (side : Side) {m : List ℕ} {s : Shape} {i t k : ℕ} {vs : List (Value Part)} → read side m ≡ accepted s i t vs k
    → Sound m (kinds_of (plan side t) s) (reading_of (read side m)).fields
reading-sound side {m} {s} {i} {t} {k} {vs} e =
    let f : most (plan side t) ≤ cell_count = leb-true (most (plan side t)) cell_count (table-few side t) in
    let g : cells_in (kinds_of (plan side t) s) ≤ most (plan side t) = shape-few (plan side t) s in
    rw e (kept (body-sound (message-traced e).rest) cell_count (omega arith))

-- ---- the names

-- where there is no name, no further step gives one
ended-for-ever : (n : ℕ) (m : List ℕ) (w : Position) {v : Position} → step m w ≡ ended v → steps n m w ≡ []
ended-for-ever zero m w e = refl
ended-for-ever (suc n) m w e = rw e (rw (ended-stays m w e) (ended-for-ever n m w e))

-- a host meets what the iterator gives
met-steps : (n : ℕ) (m : List ℕ) (at left : ℕ) → names_met n m at left ≡ steps n m (position at left)
met-steps zero m at left = refl
met-steps (suc n) m at left = go (step m (position at left)) refl (λ p l. met-steps n m p l)
  where
    go : (o : Step) → step m (position at left) ≡ o → ((p l : ℕ) → names_met n m p l ≡ steps n m (position p l))
        → names_met (suc n) m at left ≡ steps (suc n) m (position at left)
    go (name x w) e later = rw e (ap (λ (xs : List Part). x ∷ xs) (later w.at w.left))
    go (ended v) e later = rw e (sym (rw (ended-stays m (position at left) e) (ended-for-ever n m (position at left) e)))

module _ {m : List ℕ} where
  texts-here : {n p q : ℕ} {xs : List Part} → StringsHere m n p xs q → AllText m xs
  texts-here no-string = no_text
  texts-here (a-string-more h t) = a-text-more (text-here h) (texts-here t)

  number-nameless : (k : Num) (n : ℕ) → AllText m (runs_of (value_of {A = Part} k n))
  number-nameless u8 n = no_text
  number-nameless i8 n = no_text
  number-nameless u32 n = no_text
  number-nameless i32 n = no_text
  number-nameless u64 n = no_text
  number-nameless bool n = no_text

  value-texts : {k : Kind} {p q : ℕ} {v : Value Part} → FieldHere m k p v q → AllText m (runs_of v)
  value-texts (a-num {k = k} {n = n} h) = number-nameless k n
  value-texts (a-string h) = no_text
  value-texts (a-bytes h) = no_text
  value-texts (a-strings h t) = texts-here t

  fields-texts : {ks : List Kind} {p q : ℕ} {vs : List (Value Part)} → FieldsHere m ks p vs q → AllText m (names_among vs)
  fields-texts no_field = no_text
  fields-texts (a-field-more h no_field) = no_text
  fields-texts (a-field-more h (a-field-more g t)) = value-texts g

  body-texts : {pl : Plan} {p q : ℕ} {s : Shape} {vs : List (Value Part)} → BodyHere m pl p s vs q → AllText m (names_among vs)
  body-texts header-only = no_text
  body-texts (an-asked t) = fields-texts t
  body-texts (a-plain t) = fields-texts t
  body-texts (a-failure h e) = no_text
  body-texts (a-success h e no_field c) = no_text
  body-texts (a-success h e (a-field-more g t) c) = value-texts g

-- a readdir reply that succeeds shows its result and its names
record Named (vs : List (Value Part)) : Type 0 where
  result : ℤ
  names : List Part
  is : vs ≡ signed result ∷ runs names ∷ []

named_here : {m : List ℕ} {c : Bool} {p q : ℕ} {vs : List (Value Part)} → BodyHere m (led c (strings ∷ [])) p success vs q → Named vs
named_here (a-success {r = r} h e (a-field-more (a-strings {xs = xs} g s) no_field) c) = record { result = pos r; names = xs; is = refl }

readdir-here : {m : List ℕ} {t p q : ℕ} {vs : List (Value Part)} → t ≡ reply_number Readdir → BodyHere m (plan reply t) p success vs q → Named vs
unfolding plan of_reply
readdir-here {m} {t} {p} {q} {vs} b h = named_here (subst (λ (u : ℕ). BodyHere m (plan reply u) p success vs q) b h)

met_all : (m : List ℕ) {i t k : ℕ} {z : ℤ} {xs : List Part} → read reply m ≡ accepted success i t (signed z ∷ runs xs ∷ []) k → (n : ℕ)
    → names_met n m first_name (length xs) ≡ take n xs
unfolding opened
met_all m {xs = xs} e n = met-steps n m first_name (length xs) ∙ (rw e at (opened-steps n m))

-- steps from the cells that are the position of its first name, by shape and type as a host sees them: all names in their order, and each
-- is text
pub names-sound : (m : List ℕ) → (reading_of (read reply m)).shape ≡ shape_number success → (reading_of (read reply m)).type_number ≡ reply_number Readdir → (n : ℕ)
    → (names_met n m (get_or (reading_of (read reply m)).fields 1 0) (get_or (reading_of (read reply m)).fields 2 0) ≡ take n (names_of (read reply m)))
    × AllText m (names_of (read reply m))
names-sound m a b n = go (read reply m) refl a b
  where
    go : (r : Answer) → read reply m ≡ r → (reading_of r).shape ≡ shape_number success → (reading_of r).type_number ≡ reply_number Readdir
        → (names_met n m (get_or (reading_of r).fields 1 0) (get_or (reading_of r).fields 2 0) ≡ take n (names_of r)) × AllText m (names_of r)
    go (refused c p) e f g = let none : ⊥ = omega arith in absurd none
    go (accepted unknown i t vs k) e f g = let none : ⊥ = omega arith in absurd none
    go (accepted known i t vs k) e f g = let none : ⊥ = omega arith in absurd none
    go (accepted failure i t vs k) e f g = let none : ⊥ = omega arith in absurd none
    go (accepted success i t vs k) e f g =
        let v : Named vs = readdir-here g (message-traced e).rest in
        let met : names_met n m first_name (length v.names) ≡ take n v.names = met_all m (rw v.is at e) n in
        (rw v.is met, body-texts (message-traced e).rest)

-- ---- a step from any position

-- the part that a run was read as
run_inside : (m : List ℕ) (n p : ℕ) {x : Part} {q : ℕ} → run_at any_bytes n m p ≡ got x q → Inside m x.start x.size
unfolding run_at
run_inside m n p {x} {q} e = go (leb (p + n) (length m)) refl e
  where
    go : (b : Bool) → leb (p + n) (length m) ≡ b → cond b (got (part p n) (p + n)) (fail truncated p) ≡ got x q → Inside m x.start x.size
    go true f g =
        let same : part p n ≡ x = cc in
        subst (λ (y : Part). Inside m y.start y.size) same (record { fits = leb-true (p + n) (length m) f })
    go false f g = let z : false ≡ true = cc in apart z

bytes_inside : (m : List ℕ) (p : ℕ) {x : Part} {q : ℕ} → bytes_at m p ≡ got x q → Inside m x.start x.size
unfolding num_at
bytes_inside m p {x} {q} e = go (number_at 4 m p) e
  where
    go : (f : Number) → followed (num_outcome 4 p f) (λ n r. run_at any_bytes n m r) ≡ got x q → Inside m x.start x.size
    go (whole n) g = run_inside m n (p + 4) g
    go too_few g = let z : false ≡ true = cc in apart z

-- a name that was given lies inside the message, also from a position that was made up
pub step-inside : (m : List ℕ) (w : Position) {x : Part} {v : Position} → step m w ≡ name x v → Inside m x.start x.size
unfolding step
step-inside m w {x} {v} e = go w.left e
  where
    given : (l : ℕ) (o : Outcome Part) → bytes_at m w.at ≡ o → stepped (position w.at (suc l)) l o ≡ name x v → Inside m x.start x.size
    given l (got y q) f g =
        let same : y ≡ x = cc in
        subst (λ (y : Part). Inside m y.start y.size) same (bytes_inside m w.at f)
    given l (fail c p) f g = let z : false ≡ true = cc in apart z

    go : (l : ℕ) → step_by m w.at l ≡ name x v → Inside m x.start x.size
    go zero g = let z : false ≡ true = cc in apart z
    go (suc l) g = given l (bytes_at m w.at) refl g
