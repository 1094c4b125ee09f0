-- The known length is the sum of the sizes of the pieces, and lies inside the message. Assumes nothing.
use mathlib.Core.Path.{◌≡◌, refl, sym, ap, ◌∙◌}
use mathlib.Core.Bool.{Bool}
use mathlib.Core.List.{List, [], ◌∷◌, ◌++◌}
use Prim.Native.Nat.{ℕ, zero, suc, ◌+◌, ◌≤◌, ◌<◌}
use native.Mathlib.Nat.{zero-add, add_assoc}
use native.Mathlib.Omega.{arith}
use lib.ListN.{length}
use Rattle.layout.specs.Limits.{header_size}
use Rattle.layout.specs.Kinds.{Kind}
use Rattle.layout.specs.Table.{Side, Plan, plan}
use Rattle.layout.specs.Values.{Part, part, Value}
use Rattle.layout.specs.Reading.{Shape}
use Rattle.layout.specs.Pieces.{total, sized_pieces, strings_pieces, field_pieces, fields_pieces, kinds_of, pieces}
use Rattle.layout.proofs.Trace.{NumHere, RunHere, SizedHere, sized-here, StringsHere, no-string, a-string-more, FieldHere, a-num, a-string, a-bytes, a-strings, FieldsHere, no_field, a-field-more, BodyHere, header-only, an-asked, a-plain, a-failure, a-success, MessageHere}

pub total-append : (ps qs : List Part) → total (ps ++ qs) ≡ total ps + total qs
unfolding total
total-append [] qs = sym (zero-add (total qs))
total-append (x ∷ ps) qs = rw (total-append ps qs) (sym (add_assoc x.size (total ps) (total qs)))

module _ {m : List ℕ} where
  pub strings-size : {n p q : ℕ} {xs : List Part} → StringsHere m n p xs q → q ≡ p + total (strings_pieces xs p)
  unfolding total
  strings-size no-string = omega arith
  strings-size (a-string-more h t) = omega (arith, strings-size t)

  pub field-size : {k : Kind} {p q : ℕ} {v : Value Part} → FieldHere m k p v q → q ≡ p + total (field_pieces k v p)
  unfolding total
  field-size (a-num h) = omega arith
  field-size (a-string h) = omega arith
  field-size (a-bytes h) = omega arith
  field-size (a-strings h t) = omega (arith, strings-size t)

  pub fields-size : {ks : List Kind} {p q : ℕ} {vs : List (Value Part)} → FieldsHere m ks p vs q → q ≡ p + total (fields_pieces ks vs p)
  unfolding total
  fields-size no_field = omega arith
  fields-size (a-field-more {k = k} {ks = ks} {p = p} {q = q} {r = r} {v = v} {vs = vs} h t) =
      let a : q ≡ p + total (field_pieces k v p) = field-size h in
      let b : r ≡ q + total (fields_pieces ks vs q) = fields-size t in
      let c : total (fields_pieces ks vs q) ≡ total (fields_pieces ks vs (p + total (field_pieces k v p))) = ap (λ (x : ℕ). total (fields_pieces ks vs x)) a in
      rw (total-append (field_pieces k v p) (fields_pieces ks vs (p + total (field_pieces k v p)))) (omega arith)

  pub body-size : {pl : Plan} {p q : ℕ} {s : Shape} {vs : List (Value Part)} → BodyHere m pl p s vs q → q ≡ p + total (fields_pieces (kinds_of pl s) vs p)
  unfolding total
  body-size header-only = omega arith
  body-size (an-asked t) = fields-size t
  body-size (a-plain t) = fields-size t
  body-size (a-failure h e) = omega arith
  body-size (a-success h e t c) = omega (arith, fields-size t)

  -- every place lies inside the message
  pub sized_inside : {valid : List ℕ → Bool} {p : ℕ} {x : Part} → SizedHere valid m p x → p + 4 + x.size ≤ length m
  sized_inside (sized-here h r) = r.fits

  pub strings-inside : {n p q : ℕ} {xs : List Part} → StringsHere m n p xs q → p ≤ length m → q ≤ length m
  strings-inside no-string l = l
  strings-inside (a-string-more h t) l = strings-inside t (sized_inside h)

  pub field-inside : {k : Kind} {p q : ℕ} {v : Value Part} → FieldHere m k p v q → q ≤ length m
  field-inside (a-num h) = h.fits
  field-inside (a-string h) = sized_inside h
  field-inside (a-bytes h) = sized_inside h
  field-inside (a-strings h t) = strings-inside t h.fits

  pub fields-inside : {ks : List Kind} {p q : ℕ} {vs : List (Value Part)} → FieldsHere m ks p vs q → p ≤ length m → q ≤ length m
  fields-inside no_field l = l
  fields-inside (a-field-more h t) l = fields-inside t (field-inside h)

  pub body-inside : {pl : Plan} {p q : ℕ} {s : Shape} {vs : List (Value Part)} → BodyHere m pl p s vs q → p ≤ length m → q ≤ length m
  body-inside header-only l = l
  body-inside (an-asked t) l = fields-inside t l
  body-inside (a-plain t) l = fields-inside t l
  body-inside (a-failure h e) l = h.fits
  body-inside (a-success h e t c) l = fields-inside t h.fits

module _ {side : Side} {m : List ℕ} {s : Shape} {i t k : ℕ} {vs : List (Value Part)} (h : MessageHere side m s i t vs k) where
  pub known-size : k ≡ total (pieces side s t vs)
  unfolding total pieces
  known-size = omega (arith, body-size h.rest)

  pub known-inside : k ≤ length m
  known-inside = body-inside h.rest h.type.fits

  pub known-header : header_size ≤ k
  known-header = omega (arith, body-size h.rest)
