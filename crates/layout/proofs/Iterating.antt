-- The names iterator gives exactly the names of the reading, one after another, and then says so for ever. Assumes nothing.
use mathlib.Core.Path.{◌≡◌, refl, sym, ap, ap₂, ◌∙◌}
use mathlib.Core.Bool.{Bool, true, false, cond}
use mathlib.Core.List.{List, [], ◌∷◌, map}
use Prim.Native.Nat.{ℕ, zero, suc, ◌+◌, ◌≤◌, ◌<◌}
use native.Mathlib.Omega.{arith}
use lib.Dec.{ltb, eqb}
use lib.ListN.{length, take}
use lib.Seq.{take-nil, take_all}
use Rattle.text.specs.Utf8.{well_formed}
use Rattle.method.specs.declared.Method.{Method}
use Rattle.method.specs.Methods.{Found, found, unknown as no-method, of_reply}
use Rattle.method.proofs.Table.{reply-passes}
use Rattle.layout.specs.Kinds.{Num, u8, i8, u32, i32, u64, bool, Kind, num, string, bytes, strings}
use Rattle.layout.specs.Table.{row, unknown_response, Side, reply, Plan, unexpected, header, asked, plain, led, plan_of, reply_plan, plan}
use Rattle.layout.specs.Refusals.{truncated_header, truncated}
use Rattle.layout.specs.Limits.{header_size}
use Rattle.layout.specs.Pieces.{first_broken, cut_answer, Agree}
use Rattle.layout.specs.Values.{Part, part, Value, number, signed, truth, run, runs, runs_of, bytes_in, content, contents}
use Rattle.layout.specs.Reading.{Outcome, got, fail, any_bytes, bytes_at, strings_at, value_of, Shape, Answer, refused, accepted, read}
use Rattle.layout.specs.Names.{names_among, names_of, Position, position, first_name, opened, Step, name, ended, stepped, step_by, step, gather, steps, name_or, behind_name, names_at}
use Rattle.layout.proofs.Tests.{apart}
use Rattle.layout.proofs.Stays.{body-contents}
use Rattle.layout.proofs.Trace.{NumHere, RunHere, SizedHere, sized-here, StringsHere, no-string, a-string-more, FieldHere, a-num, a-string, a-bytes, a-strings, FieldsHere, no_field, a-field-more, BodyHere, header-only, an-asked, a-plain, a-failure, a-success, MessageHere, sized_reads, strings-traced, message-traced}

-- a string read as bytes is the same part
as_bytes : {m : List ℕ} {p : ℕ} {x : Part} → SizedHere well_formed m p x → SizedHere any_bytes m p x
as_bytes (sized-here h r) = sized-here h (record { fits = r.fits; good = refl })

-- past the last name the iterator stays
pub stays-ended : (n : ℕ) (m : List ℕ) (p : ℕ) → steps n m (position p 0) ≡ []
unfolding step
stays-ended zero m p = refl
stays-ended (suc n) m p = stays-ended n m p

pub ended-stays : (m : List ℕ) (w : Position) {v : Position} → step m w ≡ ended v → v ≡ w
unfolding step
ended-stays m w {v} e = go w.left refl e
  where
    same : (n : ℕ) → w.left ≡ n → position w.at n ≡ w
    same n f = λ i. position w.at (sym f i)

    from : (n : ℕ) → w.left ≡ suc n → (o : Outcome Part) → stepped (position w.at (suc n)) n o ≡ ended v → v ≡ w
    from n f (got x q) e = let z : false ≡ true = cc in apart z
    from n f (fail c p) e = let g : v ≡ position w.at (suc n) = cc in g ∙ same (suc n) f

    go : (n : ℕ) → w.left ≡ n → step_by m w.at n ≡ ended v → v ≡ w
    go zero f e = let g : v ≡ position w.at 0 = cc in g ∙ same zero f
    go (suc n) f e = from n f (bytes_at m w.at) e

-- n steps from where strings begin give the first n of them
pub strings-steps : {m : List ℕ} (n : ℕ) {k p q : ℕ} {xs : List Part} → StringsHere m k p xs q → steps n m (position p (length xs)) ≡ take n xs
unfolding step
strings-steps zero h = refl
strings-steps {m} (suc n) (no-string {p = p}) = stays-ended n m p
strings-steps (suc n) (a-string-more {x = x} h t) = rw (sized_reads (as_bytes h)) (ap (λ (ys : List Part). x ∷ ys) (strings-steps n t))

strings-count : {m : List ℕ} {n p q : ℕ} {xs : List Part} → StringsHere m n p xs q → length xs ≡ n
strings-count no-string = refl
strings-count (a-string-more h t) = ap suc (strings-count t)

-- so the strings that were read are those of the steps
pub strings-are-steps : (n : ℕ) (m : List ℕ) (p : ℕ) {xs : List Part} {q : ℕ} → strings_at n m p ≡ got xs q → xs ≡ steps n m (position p n)
strings-are-steps n m p {xs} e =
    let h = strings-traced n p e in
    let size : length xs ≡ n = strings-count h in
    sym (ap (λ (k : ℕ). steps n m (position p k)) (sym size) ∙ strings-steps n h ∙ take_all n xs (omega arith))

-- and those that stand from there on
strings-names : {m : List ℕ} {n p q : ℕ} {xs : List Part} → StringsHere m n p xs q → xs ≡ names_at n m p
strings-names no-string = refl
strings-names (a-string-more {x = x} h t) = rw (sized_reads (as_bytes h)) (ap (λ (ys : List Part). x ∷ ys) (strings-names t))

pub strings-are-names : (n : ℕ) (m : List ℕ) (p : ℕ) {xs : List Part} {q : ℕ} → strings_at n m p ≡ got xs q → xs ≡ names_at n m p
strings-are-names n m p e = strings-names (strings-traced n p e)

-- names that are those of strings are the iterator's, from wherever they were found
pub names-are-steps : (n : ℕ) (m : List ℕ) (p : ℕ) {k r q : ℕ} {xs : List Part} → StringsHere m k r xs q → names_at n m p ≡ xs → steps n m (position p n) ≡ xs
unfolding step
names-are-steps zero m p h e = e
names-are-steps (suc n) m p no-string e = let z : false ≡ true = cc in apart z
names-are-steps (suc n) m p (a-string-more {x = x} {xs = xs} (sized-here {p = r} {n = w} g i) t) e = go (λ q f. names-are-steps n m q t f) (bytes_at m p) e
  where
    go : ((q : ℕ) → names_at n m q ≡ xs → steps n m (position q n) ≡ xs) → (o : Outcome Part) → name_or o ∷ names_at n m (behind_name p o) ≡ x ∷ xs
        → gather (stepped (position p (suc n)) n o) (λ y v. y ∷ steps n m v) (λ v. steps n m v) ≡ x ∷ xs
    go next (got y q) e =
        let head : y ≡ x = cc in
        let tail : names_at n m q ≡ xs = cc in
        ap (λ (y : Part). y ∷ steps n m (position q n)) head ∙ ap (λ (ys : List Part). x ∷ ys) (next q tail)
    go next (fail c q) e =
        let empty : part 0 0 ≡ x = cc in
        let z : 0 ≡ r + 4 = ap (λ (y : Part). y.start) empty in
        let none : ⊥ = omega arith in
        absurd none

pub length-names_at : (n : ℕ) (m : List ℕ) (p : ℕ) → length (names_at n m p) ≡ n
length-names_at zero m p = refl
length-names_at (suc n) m p = ap suc (length-names_at n m (behind_name p (bytes_at m p)))

-- ---- the names of a reply stand at 13, by one test over the table

abbrev no_strings : List Kind → Bool
no_strings [] = true
no_strings (num k ∷ ks) = no_strings ks
no_strings (string ∷ ks) = no_strings ks
no_strings (bytes ∷ ks) = no_strings ks
no_strings (strings ∷ ks) = false

-- names stand nowhere but right behind a result
abbrev names_placed : Plan → Bool
names_placed unexpected = true
names_placed header = true
names_placed (asked ks) = no_strings ks
names_placed (plain ks) = no_strings ks
names_placed (led c ks) = true

table-placed : (t : ℕ) → names_placed (plan reply t) ≡ true
unfolding plan
table-placed t = go (eqb t unknown_response) (of_reply t) refl
  where
    found-placed : (f : Found) → of_reply t ≡ f → names_placed (reply_plan f) ≡ true
    found-placed (found m) e = reply-passes (λ n. names_placed (plan_of (row n).reply)) refl t e
    found-placed no-method e = refl

    go : (b : Bool) (f : Found) → of_reply t ≡ f → names_placed (cond b header (reply_plan f)) ≡ true
    go true f e = refl
    go false f e = found-placed f e

-- a value that is no list of names has none
value-nameless : (k : Num) (n : ℕ) → runs_of (value_of {A = Part} k n) ≡ []
value-nameless u8 n = refl
value-nameless i8 n = refl
value-nameless u32 n = refl
value-nameless i32 n = refl
value-nameless u64 n = refl
value-nameless bool n = refl

first-nameless : {m : List ℕ} {k : Kind} (ks : List Kind) {p q : ℕ} {v : Value Part} → FieldHere m k p v q → no_strings (k ∷ ks) ≡ true → runs_of v ≡ []
first-nameless ks (a-num {k = k} {n = n} h) s = value-nameless k n
first-nameless ks (a-string h) s = refl
first-nameless ks (a-bytes h) s = refl
first-nameless ks (a-strings h t) s = apart s

rest-nameless : (k : Kind) (ks : List Kind) → no_strings (k ∷ ks) ≡ true → no_strings ks ≡ true
rest-nameless (num k) ks h = h
rest-nameless string ks h = h
rest-nameless bytes ks h = h
rest-nameless strings ks h = apart h

nameless : {m : List ℕ} {ks : List Kind} {p q : ℕ} {vs : List (Value Part)} → FieldsHere m ks p vs q → no_strings ks ≡ true → names_among vs ≡ []
nameless no_field s = refl
nameless (a-field-more f no_field) s = refl
nameless (a-field-more {k = k} f (a-field-more {k = l} {ks = ks} g t)) s = first-nameless ks g (rest-nameless k (l ∷ ks) s)

-- where there are no names, no step gives one
none-given : (n : ℕ) (m : List ℕ) (p : ℕ) (xs : List Part) → xs ≡ [] → steps n m (position p (length xs)) ≡ take n xs
none-given n m p xs e = rw e (stays-ended n m p ∙ sym (take-nil n))

body-steps : {m : List ℕ} (n : ℕ) {pl : Plan} {s : Shape} {vs : List (Value Part)} {q : ℕ} → BodyHere m pl 5 s vs q → names_placed pl ≡ true
    → steps n m (position first_name (length (names_among vs))) ≡ take n (names_among vs)
body-steps {m} n header-only h = none-given n m first_name [] refl
body-steps {m} n (an-asked {vs = vs} t) h = none-given n m first_name (names_among vs) (nameless t h)
body-steps {m} n (a-plain {vs = vs} t) h = none-given n m first_name (names_among vs) (nameless t h)
body-steps {m} n (a-failure g e) h = none-given n m first_name [] refl
body-steps {m} n (a-success g e no_field c) h = none-given n m first_name [] refl
body-steps {m} n (a-success g e (a-field-more (a-num {k = k} {n = x} f) t) c) h = none-given n m first_name (runs_of (value_of k x)) (value-nameless k x)
body-steps {m} n (a-success g e (a-field-more (a-string f) t) c) h = none-given n m first_name [] refl
body-steps {m} n (a-success g e (a-field-more (a-bytes f) t) c) h = none-given n m first_name [] refl
body-steps {m} n (a-success g e (a-field-more (a-strings f s) t) c) h = strings-steps n s

-- n steps from the opening give the first n names of the reading, for every n and every message
pub opened-steps : (n : ℕ) (m : List ℕ) → steps n m (opened m) ≡ take n (names_of (read reply m))
unfolding opened
opened-steps n m = go (read reply m) refl
  where
    go : (a : Answer) → read reply m ≡ a → steps n m (position first_name (length (names_of a))) ≡ take n (names_of a)
    go (refused c p) e = none-given n m first_name [] refl
    go (accepted s i t vs k) e = body-steps n (message-traced e).rest (table-placed t)

-- a cut message has none
pub cut-nameless : (n j : ℕ) (ps : List Part) → take n (names_of (cut_answer j ps)) ≡ []
unfolding cut_answer
cut-nameless n j ps = go (ltb j header_size)
  where
    go : (b : Bool) → take n (names_of (cond b (refused truncated_header 0) (refused truncated (first_broken j ps)))) ≡ []
    go true = take-nil n
    go false = take-nil n

-- ---- the names of a message that agrees hold the same bytes

map-take : {A B : Type 0} (f : A → B) (n : ℕ) (xs : List A) → map f (take n xs) ≡ take n (map f xs)
map-take f zero xs = refl
map-take f (suc n) [] = refl
map-take f (suc n) (x ∷ xs) = ap (λ (ys : List _). f x ∷ ys) (map-take f n xs)

-- the bytes of the names, from what the values say
abbrev names_said : List (Value (List ℕ)) → List (List ℕ)
names_said [] = []
names_said (r ∷ []) = []
names_said (r ∷ v ∷ vs) = runs_of v

value-names : (m : List ℕ) (v : Value Part) → map (bytes_in m) (runs_of v) ≡ runs_of (content m v)
value-names m (number n) = refl
value-names m (signed z) = refl
value-names m (truth b) = refl
value-names m (run x) = refl
value-names m (runs xs) = refl

contents-names : (m : List ℕ) (vs : List (Value Part)) → map (bytes_in m) (names_among vs) ≡ names_said (contents m vs)
contents-names m [] = refl
contents-names m (r ∷ []) = refl
contents-names m (r ∷ v ∷ vs) = value-names m v

pub names-bytes : {side : Side} {m m' : List ℕ} {s : Shape} {i t k : ℕ} {vs : List (Value Part)} (n : ℕ) → MessageHere side m s i t vs k → Agree k m m'
    → map (bytes_in m') (take n (names_among vs)) ≡ map (bytes_in m) (take n (names_among vs))
names-bytes {m = m} {m' = m'} {vs = vs} n h a =
    map-take (bytes_in m') n (names_among vs)
    ∙ ap (take n) (contents-names m' vs ∙ ap names_said (body-contents h.rest a) ∙ sym (contents-names m vs))
    ∙ sym (map-take (bytes_in m) n (names_among vs))
