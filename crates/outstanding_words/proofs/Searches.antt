-- What is looked for in a list of records. Assumes nothing.
use Rattle.std.proofs.Common.{◌≡◌, refl, ◌∙◌, ap, ℕ, suc, ◌+◌, ◌<◌, ◌≤◌, not, List, [], ◌∷◌, ◌++◌, length, take, slice_index_or, arith}
use Rattle.std.specs.Prelude.{filter, map}
use Rattle.std.specs.Int.{from_bool}
use native.Mathlib.Numerals.{add-one}
use lib.ListN.{get_or}
use lib.Seq.{take-suc}
use Rattle.std.proofs.lemmas.List.{map-append, length-map, length-take}
use Rattle.std.proofs.lemmas.List.Filters.{length-filter_both}
use Rattle.outstanding_records.specs.declared.Record.{Record}
use Rattle.outstanding_records.specs.declared.Record.TheVariants.{Free, Held}
use Rattle.outstanding_records.specs.Words.{record_of, records}
use Rattle.outstanding.specs.Records.{is_free, ids}

-- as many ids as records that are not free
pub ids_held : (l : List Record) → length (ids l) ≡ length (filter (λ r. not (is_free r)) l)
ids_held [] = refl
ids_held (Free ∷ l) = ids_held l
ids_held (Held i q ∷ l) = ap suc (ids_held l)

-- one id more behind the others, where the record is not free
ids_behind : (l : List Record) (r : Record) → length (ids (l ++ (r ∷ []))) ≡ length (ids l) + from_bool (not (is_free r))
ids_behind [] Free = refl
ids_behind [] (Held i q) = refl
ids_behind (Free ∷ l) r = ids_behind l r
ids_behind (Held i q ∷ l) r = let h = ids_behind l r in omega (arith, h)

-- the ids among the words up to here, and up to the next
pub ids_turn : (ws : List ℕ) (i : ℕ) → i < length ws → length (ids (records (take (i + 1) ws))) ≡ length (ids (records (take i ws))) + from_bool (not (is_free (record_of (get_or ws i 0))))
ids_turn ws i h =
    rw (add-one i, take-suc ws i 0 h, map-append record_of (take i ws) (get_or ws i 0 ∷ [])) (ids_behind (records (take i ws)) (record_of (get_or ws i 0)))

-- no more of them than words up to here
pub ids_so_far : (ws : List ℕ) (i : ℕ) → length (ids (records (take i ws))) ≤ i
ids_so_far ws i =
    let rs = records (take i ws) in
    let held = ids_held rs in
    let both = length-filter_both is_free (λ r. not (is_free r)) (λ r. refl) rs in
    let long = length-map (take i ws) record_of in
    let taken = length-take i ws in
    omega (arith, held, both, long, taken)

-- a list whose elements are f of those of another one
pub map_by_each : {A B : Type 0} (f : A → B) (d : A) (e : B) (xs : List A) (ys : List B) → length xs ≡ length ys → ((i : ℕ) → i < length xs → slice_index_or ys i e ≡ f (slice_index_or xs i d)) → ys ≡ map f xs
map_by_each f d e [] [] l h = refl
map_by_each f d e [] (y ∷ ys) l h = absurd (omega arith)
map_by_each f d e (x ∷ xs) [] l h = absurd (omega arith)
map_by_each {A} {B} f d e (x ∷ xs) (y ∷ ys) l h =
    ap (λ (z : B). z ∷ ys) (h 0 (omega arith)) ∙ ap (λ (zs : List B). f x ∷ zs) (map_by_each f d e xs ys (omega arith) (λ i k. h (suc i) (omega arith)))
