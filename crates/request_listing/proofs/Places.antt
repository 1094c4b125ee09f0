-- The number of a request's refusal is at most 5, and its place lies inside the longest message. Assumes nothing.
use mathlib.Core.Path.{◌≡◌, refl, ap, ◌∙◌}
use mathlib.Core.Bool.{Bool, true, false, cond}
use mathlib.Core.List.{List, [], ◌∷◌}
use Prim.Native.Nat.{ℕ, zero, suc, ◌+◌, ◌≤◌}
use native.Mathlib.Nat.{le_trans}
use native.Mathlib.Omega.{arith}
use lib.Dec.{leb, ltb, lit≤}
use lib.ListN.{length, take, drop}
use borrow.Author.Tests.{leb-true, ltb-false}
use Rattle.number.specs.BigEndian.{whole, truncated as too_few, be, number_at}
use Rattle.text.specs.Utf8.{well_formed}
use Rattle.method.specs.Methods.{Found, found, unknown as no-method, of_request}
use Rattle.layout.specs.Kinds.{width, Kind, num, string, bytes, strings, kinds}
use Rattle.layout.specs.Table.{request, row, request_plan, plan}
use Rattle.layout.specs.Values.{part, run, runs}
use Rattle.layout.specs.Refusals.{truncated, malformed_text}
use Rattle.layout.specs.Limits.{header_size, longest}
use Rattle.layout.specs.Reading.{Outcome, got, fail, Reader, followed, mapped, num_outcome, num_at, malformed_place, run_at, sized_at, string_at, any_bytes, strings_at, value_of, field_at, fields_at, known, Body, body, body_at, Message, message, message_at, Answer, refused, accepted, answer, read}
use Rattle.layout.proofs.Breaking.{malformed-inside}

module _ (m : List ℕ) where
  data Inside {A : Type 0} : Outcome A → Type 0 where
    got-inside : {a : A} {q : ℕ} → q ≤ length m → Inside (got a q)
    fail-inside : {n p : ℕ} → n ≤ 5 → p ≤ length m → Inside (fail n p)

  then-inside : {A B : Type 0} {o : Outcome A} {k : A → ℕ → Outcome B} → Inside o → ((a : A) (q : ℕ) → q ≤ length m → Inside (k a q)) → Inside (followed o k)
  then-inside (got-inside {a = a} {q = q} h) f = f a q h
  then-inside (fail-inside n p) f = fail-inside n p

  map-inside : {A B : Type 0} (f : A → B) (r : Reader A) {p : ℕ} → Inside (r m p) → Inside (mapped f r m p)
  map-inside f r h = then-inside h (λ a q g. got-inside g)

  num-inside : (w p : ℕ) → p ≤ length m → Inside (num_at w m p)
  unfolding num_at number_at
  num-inside w p h = go (leb (p + w) (length m)) refl
    where
      go : (t : Bool) → leb (p + w) (length m) ≡ t → Inside (num_outcome w p (cond t (whole (be (take w (drop p m)))) too_few))
      go true e = got-inside (leb-true (p + w) (length m) e)
      go false e = fail-inside (lit≤ tt) h

  run_inside : (valid : List ℕ → Bool) (n p : ℕ) → p ≤ length m → Inside (run_at valid n m p)
  unfolding run_at
  run_inside valid n p h = go (leb (p + n) (length m)) (valid (take n (drop p m))) refl
    where
      go : (t u : Bool) → leb (p + n) (length m) ≡ t → Inside (cond t (cond u (got (part p n) (p + n)) (fail malformed_text (malformed_place n m p))) (fail truncated p))
      go true true e = got-inside (leb-true (p + n) (length m) e)
      go true false e = let l : p + n ≤ length m = leb-true (p + n) (length m) e in fail-inside (lit≤ tt) (le_trans (malformed-inside n m p l) l)
      go false u e = fail-inside (lit≤ tt) h

  sized_inside : (valid : List ℕ → Bool) (p : ℕ) → p ≤ length m → Inside (sized_at valid m p)
  sized_inside valid p h = then-inside (num-inside 4 p h) (λ n q g. run_inside valid n q g)

  strings-inside : (n p : ℕ) → p ≤ length m → Inside (strings_at n m p)
  strings-inside zero p h = got-inside h
  strings-inside (suc n) p h = then-inside (sized_inside well_formed p h) (λ x q g. map-inside (λ xs. x ∷ xs) (strings_at n) (strings-inside n q g))

  field-inside : (k : Kind) (p : ℕ) → p ≤ length m → Inside (field_at k m p)
  field-inside (num k) p h = map-inside (value_of k) (num_at (width k)) (num-inside (width k) p h)
  field-inside string p h = map-inside run string_at (sized_inside well_formed p h)
  field-inside bytes p h = map-inside run (sized_at any_bytes) (sized_inside any_bytes p h)
  field-inside strings p h = then-inside (num-inside 4 p h) (λ n q g. map-inside runs (strings_at n) (strings-inside n q g))

  fields-inside : (ks : List Kind) (p : ℕ) → p ≤ length m → Inside (fields_at ks m p)
  fields-inside [] p h = got-inside h
  fields-inside (k ∷ ks) p h = then-inside (field-inside k p h) (λ v q g. map-inside (λ vs. v ∷ vs) (fields_at ks) (fields-inside ks q g))

  body-inside : (f : Found) (p : ℕ) → p ≤ length m → Inside (body_at (request_plan f) m p)
  body-inside (found x) p h = map-inside (body known) (fields_at (kinds (row x).request)) (fields-inside (kinds (row x).request) p h)
  body-inside no-method p h = got-inside h

  message-inside : Inside (message_at request m 0)
  unfolding message_at plan
  message-inside =
      then-inside (num-inside 4 0 (omega arith))
      (λ i q g. then-inside (num-inside 1 q g) (λ t r l. map-inside (message i t) (body_at (plan request t)) (body-inside (of_request t) r l)))

  refused-at : {o : Outcome Message} {n p : ℕ} → length m ≤ longest → Inside o → answer o ≡ refused n p → (n ≤ 5) × (p ≤ longest)
  refused-at s (got-inside h) e = let z : ◌≡◌ {A = ℕ} 0 1 = cc in let none : ⊥ = omega arith in absurd none
  refused-at {n = n} {p = p} s (fail-inside {n = c} {p = q} h g) e = let a : c ≡ n = cc in let b : q ≡ p = cc in (omega arith, omega arith)

  pub refusal-place : {n p : ℕ} → read request m ≡ refused n p → (n ≤ 5) × (p ≤ longest)
  unfolding read
  refusal-place {n} {p} e = go (ltb (length m) header_size) (ltb longest (length m)) refl e
    where
      go : (t u : Bool) → ltb longest (length m) ≡ u → cond t (refused 1 0) (cond u (refused 2 0) (answer (message_at request m 0))) ≡ refused n p → (n ≤ 5) × (p ≤ longest)
      go true u h e = let a : ◌≡◌ {A = ℕ} 1 n = cc in let b : ◌≡◌ {A = ℕ} 0 p = cc in (omega arith, omega arith)
      go false true h e = let a : ◌≡◌ {A = ℕ} 2 n = cc in let b : ◌≡◌ {A = ℕ} 0 p = cc in (omega arith, omega arith)
      go false false h e = refused-at (ltb-false longest (length m) h) message-inside e
