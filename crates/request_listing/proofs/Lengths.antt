-- The listing of a request of bytes has at most `longest_listing` bytes. Assumes nothing.
use mathlib.Core.Path.{◌≡◌, refl, ap}
use mathlib.Core.List.{List, [], ◌∷◌, ◌++◌}
use Prim.Native.Nat.{ℕ, ◌+◌, ◌≤◌}
use native.Mathlib.Omega.{arith}
use lib.Dec.{leb}
use lib.ListN.{length, length-append}
use borrow.Author.Tests.{leb-true}
use Rattle.number.specs.BigEndian.{Bytes}
use Rattle.text.specs.Ascii.{ascii}
use Rattle.method.specs.declared.Method.{Method}
use Rattle.method.specs.Methods.{Found, found, unknown as no-method, request_number, of_request}
use Rattle.method.proofs.Table.{request-found, request-passes}
use Rattle.layout.specs.Table.{request, row, request_plan, plan}
use Rattle.layout.specs.Values.{Part, Value}
use Rattle.layout.specs.Limits.{longest}
use Rattle.layout.specs.Reading.{Shape, Answer, refused, accepted, read}
use Rattle.layout.specs.Parts.{request_fields_of, fields_of}
use Rattle.layout.proofs.Trace.{BodyHere, MessageHere, message-traced}
use Rattle.layout.proofs.Sizes.{known-inside}
use Rattle.lines.specs.Lines.{decimal, Line, line_text, text}
use Rattle.lines.proofs.Adding.{text-then}
use Rattle.method_names.specs.Names.{name_of}
use Rattle.request_lines.specs.FieldLines.{field_lines}
use Rattle.request_lines.proofs.FieldLengths.{digits-20, num-below, body-short, capacity, fields_fit}
use Rattle.request_listing.specs.Listing.{closing_line, refusal_line, first_line, request_lines, listing, longest_listing}
use Rattle.request_listing.proofs.Places.{refusal-place}

-- a method's name and its fields, over the whole table
method-fits : (x : Method) → length (ascii (name_of x)) + capacity (row x).request ≤ 179
method-fits x =
    leb-true _ 179
    (request-passes (λ y. leb (length (ascii (name_of y)) + capacity (row y).request) 179) refl (request_number x) (request-found x))

-- ---- whole listings

three-words : (u v w : List ℕ) → length (line_text (u ∷ v ∷ w ∷ [])) ≡ length u + length v + length w + 3
three-words u v w =
    omega (
      arith,
      length-append u (ascii " " ++ line_text (v ∷ w ∷ [])),
      length-append v (ascii " " ++ line_text (w ∷ [])),
      length-append w (ascii "\n"),
    )

four-words : (u v w x : List ℕ) → length (line_text (u ∷ v ∷ w ∷ x ∷ [])) ≡ length u + length v + length w + length x + 4
four-words u v w x = omega (arith, length-append u (ascii " " ++ line_text (v ∷ w ∷ x ∷ [])), three-words v w x)

closing-fits : (k w : ℕ) → k ≤ longest → w ≤ longest → length (line_text (closing_line k w)) ≤ 51
closing-fits k w a b = omega (arith, four-words (ascii "known") (decimal k) (ascii "of") (decimal w), digits-20 k (omega arith), digits-20 w (omega arith))

-- a first line, lines, and a last one
joined : (f : Line) (ls : List Line) (z : Line) → length (text (f ∷ (ls ++ (z ∷ [])))) ≡ length (line_text f) + length (text ls) + length (line_text z)
joined f ls z =
    omega (
      arith,
      length-append (line_text f) (text (ls ++ (z ∷ []))),
      ap length (text-then ls (z ∷ [])),
      length-append (text ls) (line_text z ++ []),
      length-append (line_text z) [],
    )

module _ {m : List ℕ} (by : Bytes m) where
  accepted-fits : {s : Shape} {i t k : ℕ} {vs : List (Value Part)} → MessageHere request m s i t vs k → (f : Found) → BodyHere m (request_plan f) 5 s vs k
      → length (text (first_line f t i ∷ (field_lines (request_fields_of f) vs ++ (closing_line k (length m) ∷ [])))) ≤ longest_listing
  accepted-fits {i = i} {t = t} {k = k} {vs = vs} h (found x) r =
      let l : length m ≤ longest = h.short in
      omega (
        arith,
        joined (first_line (found x) t i) (field_lines (row x).request vs) (closing_line k (length m)),
        three-words (ascii (name_of x)) (ascii "id") (decimal i),
        digits-20 i (omega (arith, num-below by l h.id)),
        fields_fit (row x).request (body-short by l (found x) r),
        method-fits x,
        closing-fits k (length m) (omega (arith, known-inside h)) l,
      )
  accepted-fits {i = i} {t = t} {k = k} {vs = vs} h no-method r =
      let l : length m ≤ longest = h.short in
      omega (
        arith,
        joined (first_line no-method t i) [] (closing_line k (length m)),
        four-words (ascii "unknown") (decimal t) (ascii "id") (decimal i),
        digits-20 i (omega (arith, num-below by l h.id)),
        digits-20 t (omega (arith, num-below by l h.type)),
        closing-fits k (length m) (omega (arith, known-inside h)) l,
      )

-- every listing of a request of bytes
pub listing-fits : (m : List ℕ) → Bytes m → length (listing m) ≤ longest_listing
unfolding listing fields_of plan
listing-fits m by = go (read request m) refl
  where
    go : (a : Answer) → read request m ≡ a → length (text (request_lines (length m) a)) ≤ longest_listing
    go (refused n p) e =
        let r = refusal-place m e in
        omega (
          arith,
          length-append (line_text (refusal_line n p)) [],
          four-words (ascii "refused") (decimal n) (ascii "at") (decimal p),
          digits-20 n (omega (arith, r.0)),
          digits-20 p (omega (arith, r.1)),
        )
    go (accepted s i t vs k) e = let h = message-traced e in accepted-fits by h (of_request t) h.rest
