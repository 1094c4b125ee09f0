-- A cut of the known part is refused: with a truncated header, or where the first number or run begins that is no longer whole.
-- Assumes nothing.
use mathlib.Core.Path.{◌≡◌, refl, sym, ap, ◌∙◌}
use mathlib.Core.Bool.{Bool, true, false, cond}
use mathlib.Core.List.{List, [], ◌∷◌, ◌++◌, append_assoc, append-nil}
use Prim.Native.Nat.{ℕ, zero, suc, ◌+◌, ◌≤◌, ◌<◌}
use native.Mathlib.Omega.{arith}
use lib.Dec.{leb, ltb}
use lib.ListN.{length, take, drop, length-take}
use borrow.Author.Tests.{ltb-true, ltb-false, lt-ltb, le-ltb, lt-leb, le-leb}
use Rattle.number.specs.BigEndian.{number_at}
use Rattle.layout.specs.Kinds.{width, Kind, strings}
use Rattle.layout.specs.Refusals.{truncated}
use Rattle.layout.specs.Limits.{header_size, longest}
use Rattle.layout.specs.Table.{Side, Plan, led, plan}
use Rattle.layout.specs.Values.{Part, part, Value}
use Rattle.layout.specs.Reading.{Outcome, got, fail, num_at, run_at, sized_at, strings_at, field_at, fields_at, Shape, succeeded, body_at, message_at, answer, read}
use Rattle.layout.specs.Pieces.{total, sized_pieces, strings_pieces, field_pieces, fields_pieces, kinds_of, pieces, first_broken, cut_answer, Agree}
use Rattle.layout.proofs.Agreement.{agree-take}
use Rattle.layout.proofs.Sizes.{sized_inside, strings-size, field-size, fields-size, field-inside, body-size, known-inside}
use Rattle.layout.proofs.Stays.{num-stays, sized-stays, field-stays}
use Rattle.layout.proofs.Trace.{NumHere, RunHere, SizedHere, sized-here, StringsHere, no-string, a-string-more, FieldHere, a-num, a-string, a-bytes, a-strings, FieldsHere, no_field, a-field-more, BodyHere, header-only, an-asked, a-plain, a-failure, a-success, MessageHere, num-reads, sized_reads, field-reads}

-- ---- pieces that lie whole in the first j bytes are passed over

module _ (p w j : ℕ) (rest : List Part) where
  pub whole-piece : p + w ≤ j → first_broken j (part p w ∷ rest) ≡ first_broken j rest
  whole-piece h = rw (le-leb (p + w) j h)

  pub broken-piece : j < p + w → first_broken j (part p w ∷ rest) ≡ p
  broken-piece h = rw (lt-leb (p + w) j h)

sized-whole : (p n j : ℕ) (rest : List Part) → p + 4 + n ≤ j → first_broken j (sized_pieces p n ++ rest) ≡ first_broken j rest
sized-whole p n j rest h = whole-piece p 4 j (part (p + 4) n ∷ rest) (omega arith) ∙ whole-piece (p + 4) n j rest h

strings-whole : (xs : List Part) (p j : ℕ) (rest : List Part) → p + total (strings_pieces xs p) ≤ j → first_broken j (strings_pieces xs p ++ rest) ≡ first_broken j rest
unfolding total
strings-whole [] p j rest h = refl
strings-whole (x ∷ xs) p j rest h =
    sized-whole p x.size j (strings_pieces xs (p + 4 + x.size) ++ rest) (omega arith)
    ∙ strings-whole xs (p + 4 + x.size) j rest (omega arith)

field-whole : {m : List ℕ} {k : Kind} {p q : ℕ} {v : Value Part} → FieldHere m k p v q → (j : ℕ) → q ≤ j → (rest : List Part)
    → first_broken j (field_pieces k v p ++ rest) ≡ first_broken j rest
field-whole (a-num {k = k} {p = p} h) j l rest = whole-piece p (width k) j rest l
field-whole (a-string {p = p} {x = x} h) j l rest = sized-whole p x.size j rest l
field-whole (a-bytes {p = p} {x = x} h) j l rest = sized-whole p x.size j rest l
field-whole (a-strings {p = p} {xs = xs} h t) j l rest =
    whole-piece p 4 j (strings_pieces xs (p + 4) ++ rest) (omega (arith, strings-size t))
    ∙ strings-whole xs (p + 4) j rest (omega (arith, strings-size t))

-- ---- and the first that does not is where the refusal stands

module _ (m : List ℕ) (j : ℕ) where
  too_few : (p w : ℕ) → j < p + w → leb (p + w) (length (take j m)) ≡ false
  too_few p w h = lt-leb (p + w) (length (take j m)) (omega (arith, length-take j m))

  num-cut : (w p : ℕ) → j < p + w → num_at w (take j m) p ≡ fail truncated p
  unfolding num_at number_at
  num-cut w p h = rw (too_few p w h)

  pub run-cut : (valid : List ℕ → Bool) (n p : ℕ) → j < p + n → run_at valid n (take j m) p ≡ fail truncated p
  unfolding run_at
  run-cut valid n p h = rw (too_few p n h)

  sized-cut : {valid : List ℕ → Bool} {p : ℕ} {x : Part} → SizedHere valid m p x → j < p + 4 + x.size → (rest : List Part)
      → sized_at valid (take j m) p ≡ fail truncated (first_broken j (sized_pieces p x.size ++ rest))
  sized-cut {valid} (sized-here {p = p} {n = n} h r) l rest = go (ltb j (p + 4)) refl
    where
      go : (b : Bool) → ltb j (p + 4) ≡ b → sized_at valid (take j m) p ≡ fail truncated (first_broken j (sized_pieces p n ++ rest))
      go true e =
          let c : j < p + 4 = ltb-true j (p + 4) e in
          rw (num-cut 4 p c, broken-piece p 4 j (part (p + 4) n ∷ rest) c)
      go false e =
          let c : p + 4 ≤ j = ltb-false j (p + 4) e in
          rw (num-reads (num-stays h (agree-take (p + 4) j m h.fits c)), run-cut valid n (p + 4) l, whole-piece p 4 j (part (p + 4) n ∷ rest) c, broken-piece (p + 4) n j rest l)

  strings-cut : {n p q : ℕ} {xs : List Part} → StringsHere m n p xs q → p ≤ j → j < q → (rest : List Part)
      → strings_at n (take j m) p ≡ fail truncated (first_broken j (strings_pieces xs p ++ rest))
  strings-cut no-string a l rest = let none : ⊥ = omega arith in absurd none
  strings-cut (a-string-more {p = p} {n = n} {x = x} {xs = xs} h t) a l rest =
      go (ltb j (p + 4 + x.size)) refl (λ c. strings-cut t c l rest)
    where
      next : ℕ
      next = p + 4 + x.size

      go : (b : Bool) → ltb j next ≡ b
          → (next ≤ j → strings_at n (take j m) next ≡ fail truncated (first_broken j (strings_pieces xs next ++ rest)))
          → strings_at (suc n) (take j m) p ≡ fail truncated (first_broken j (strings_pieces (x ∷ xs) p ++ rest))
      go true e later = rw (sized-cut h (ltb-true j next e) (strings_pieces xs next ++ rest))
      go false e later =
          let c : next ≤ j = ltb-false j next e in
          rw (sized_reads (sized-stays h (agree-take next j m (sized_inside h) c)), later c, sized-whole p x.size j (strings_pieces xs next ++ rest) c)

  field_cut : {k : Kind} {p q : ℕ} {v : Value Part} → FieldHere m k p v q → j < q → (rest : List Part)
      → field_at k (take j m) p ≡ fail truncated (first_broken j (field_pieces k v p ++ rest))
  field_cut (a-num {k = k} {p = p} h) l rest = rw (num-cut (width k) p l, broken-piece p (width k) j rest l)
  field_cut (a-string h) l rest = rw (sized-cut h l rest)
  field_cut (a-bytes h) l rest = rw (sized-cut h l rest)
  field_cut (a-strings {p = p} {n = n} {q = q} {xs = xs} h t) l rest = go (ltb j (p + 4)) refl
    where
      go : (b : Bool) → ltb j (p + 4) ≡ b → field_at strings (take j m) p ≡ fail truncated (first_broken j (part p 4 ∷ strings_pieces xs (p + 4) ++ rest))
      go true e =
          let c : j < p + 4 = ltb-true j (p + 4) e in
          rw (num-cut 4 p c, broken-piece p 4 j (strings_pieces xs (p + 4) ++ rest) c)
      go false e =
          let c : p + 4 ≤ j = ltb-false j (p + 4) e in
          rw (num-reads (num-stays h (agree-take (p + 4) j m h.fits c)), strings-cut t c l rest, whole-piece p 4 j (strings_pieces xs (p + 4) ++ rest) c)

  fields-cut : {ks : List Kind} {p q : ℕ} {vs : List (Value Part)} → FieldsHere m ks p vs q → p ≤ j → j < q
      → fields_at ks (take j m) p ≡ fail truncated (first_broken j (fields_pieces ks vs p))
  fields-cut no_field a l = let none : ⊥ = omega arith in absurd none
  fields-cut (a-field-more {k = k} {ks = ks} {p = p} {q = q} {v = v} {vs = vs} h t) a l =
      rw (← (field-size h)) (go (ltb j q) refl (λ c. fields-cut t c l))
    where
      go : (b : Bool) → ltb j q ≡ b → (q ≤ j → fields_at ks (take j m) q ≡ fail truncated (first_broken j (fields_pieces ks vs q)))
          → fields_at (k ∷ ks) (take j m) p ≡ fail truncated (first_broken j (field_pieces k v p ++ fields_pieces ks vs q))
      go true e later = rw (field_cut h (ltb-true j q e) (fields_pieces ks vs q))
      go false e later =
          let c : q ≤ j = ltb-false j q e in
          rw (field-reads (field-stays h (agree-take q j m (field-inside h) c)), later c, field-whole h j c (fields_pieces ks vs q))

  body-cut : {pl : Plan} {p q : ℕ} {s : Shape} {vs : List (Value Part)} → BodyHere m pl p s vs q → p ≤ j → j < q
      → body_at pl (take j m) p ≡ fail truncated (first_broken j (fields_pieces (kinds_of pl s) vs p))
  unfolding total
  body-cut header-only a l = let none : ⊥ = omega arith in absurd none
  body-cut (an-asked t) a l = rw (fields-cut t a l)
  body-cut (a-plain t) a l = rw (fields-cut t a l)
  body-cut (a-failure {p = p} h e) a l = rw (num-cut 4 p l, broken-piece p 4 j [] l)
  body-cut (a-success {c = c} {ks = ks} {p = p} {r = r} {q = q} {vs = vs} h e t g) a l = go (ltb j (p + 4)) refl
    where
      go : (b : Bool) → ltb j (p + 4) ≡ b → body_at (led c ks) (take j m) p ≡ fail truncated (first_broken j (part p 4 ∷ fields_pieces ks vs (p + 4)))
      go true f =
          let d : j < p + 4 = ltb-true j (p + 4) f in
          rw (num-cut 4 p d, broken-piece p 4 j (fields_pieces ks vs (p + 4)) d)
      go false f =
          let d : p + 4 ≤ j = ltb-false j (p + 4) f in
          rw (num-reads (num-stays h (agree-take (p + 4) j m h.fits d)), e, fields-cut t d l, whole-piece p 4 j (fields_pieces ks vs (p + 4)) d)

-- every cut of the known part
pub message-cut : {side : Side} {m : List ℕ} {s : Shape} {i t k : ℕ} {vs : List (Value Part)} → MessageHere side m s i t vs k → (j : ℕ) → j < k
    → read side (take j m) ≡ cut_answer j (pieces side s t vs)
unfolding read message_at cut_answer pieces
message-cut {side} {m} {s} {i} {t} {k} {vs} h j l = go (ltb j header_size) refl
  where
    inside : j ≤ length m
    inside = omega (arith, known-inside h)

    size : length (take j m) ≡ j
    size = omega (arith, length-take j m, inside)

    go : (b : Bool) → ltb j header_size ≡ b → read side (take j m) ≡ cut_answer j (pieces side s t vs)
    go true e = rw (size, e)
    go false e =
        let c : header_size ≤ j = ltb-false j header_size e in
        let d : j ≤ longest = omega (arith, inside, h.short) in
        rw (
          size,
          e,
          le-ltb longest j d,
          num-reads (num-stays h.id (agree-take 4 j m h.id.fits (omega arith))),
          num-reads (num-stays h.type (agree-take header_size j m h.type.fits c)),
          body-cut m j h.rest c l,
          le-leb 4 j (omega arith),
          le-leb header_size j c,
        )
